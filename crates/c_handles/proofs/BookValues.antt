-- The machine value of a handle. Assumes `Logic`.
use Rattle.std.proofs.Common.{◌≡◌, ◌≢◌, ℕ, List, [], ◌∷◌, ◌++◌, refl, subst, Some, None, Option}
use seplogic.Ra.Ura.{Ura}
use mir.Val.{Val, vptr, vstruct, vcons, vnil, of_list}
use base.Logic.{never, fst∗}
use mir.Raw.{raw as bare}
use types.Logic.{Logic, sem}
use types.Kit.{Item, Goal, Seq, Step, step, ‵, ◌$◌, drop, fsplit, fjoin, fpick, fpack, feq_i, feq_l}
use denote.RattleType.{Valss}
use denote.Builtin.{RawPtr}
use denote.Memory.{lone}
use denote.RawPtr.{Ptr, block_ptr, null_ptr, ptr_val, in_a_block}
use denote.Steps.{nothing}
use denote.Struct.Struct.{within}
use denote.Struct.Owning.{shape}
use Rattle.std_heap.specs.contracts.GlobalAllocator.TheImpl.{ghosts}
use Rattle.std_alloc.specs.Box.Ownership.{box_owns}
use Rattle.book_steps.specs.contracts.book.StepBook.{the_row}
use Rattle.book_steps.specs.Books.{BookHeld}
use Rattle.c_handles.specs.Owned.{heap, owned_book}
use Rattle.c_handles.specs.contracts.book_handle.BookHandle as handle

abbrev pub one : Val → Val
one v = vstruct (vcons v vnil)

module _ {M : Type 1} {𝓤 : Ura M} {𝓛 : Logic 𝓤} {K : Type 0} {Γ : List (Item 𝓤)} {G : Goal 𝓤 𝓛.H} where
  pub handle_out : K → (d : handle.the_row.Denot) (vs : List Val)
      → (vs ≡ vstruct (of_list (ptr_val d.at ∷ [])) ∷ [] → Seq K 𝓛 (‵ (owned_book d.at d.book) ∷ Γ) G)
      → Seq K 𝓛 (‵ (handle.the_row.own_val d vs) ∷ Γ) G
  handle_out t d vs k =
      fsplit t $ fpick t (λ vss. fsplit t $ feq_l t (λ ev. fsplit t $ feq_l t (λ ep. drop t $
      k (subst (λ (ps : List Val). vs ≡ vstruct (of_list (ps ++ [])) ∷ []) ep ev))))

  pub handle_in : K → (b o : ℕ) (s : Option BookHeld)
      → Step K 𝓛 (‵ (handle.the_row.own_val (record { at = block_ptr b o; book = s }) (one (vptr b o) ∷ [])) ∷ Γ) G (‵ (owned_book (block_ptr b o) s) ∷ Γ) G
  handle_in t b o s = step (λ k. let v : Val = one (vptr b o) in
      nothing t $ feq_i t (List Val) (vptr b o ∷ []) (vptr b o ∷ []) refl $ fjoin t $ feq_i t (List Val) (v ∷ []) (v ∷ []) refl $ fjoin t $
      fpack t (Valss (RawPtr ∷ [])) (within (shape handle.the_type) (block_ptr b o, tt) (v ∷ [])) (vptr b o ∷ [], tt) $ fjoin t $ k)

  -- a handle that has steps has them in a block
  pub opened : K → (p : Ptr) (s : Option BookHeld) → s ≢ None
      → ((b o : ℕ) (x : BookHeld) → p ≡ block_ptr b o → s ≡ Some x → Seq K 𝓛 (‵ (box_owns (ghosts.dealloc_token heap) the_row (block_ptr b o) x) ∷ Γ) G)
      → Seq K 𝓛 (‵ (owned_book p s) ∷ Γ) G
  opened t p None some k = absurd (some refl)
  opened t p (Some x) some k =
      in_a_block t p (λ q. box_owns (ghosts.dealloc_token heap) the_row q x) (fst∗ 𝓤 (never 𝓤) (sem 𝓛 (ghosts.dealloc_token heap (bare (lone the_row.mir))
      null_ptr))) (λ b o e. k b o x e refl)
