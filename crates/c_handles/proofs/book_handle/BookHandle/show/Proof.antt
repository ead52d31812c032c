-- `show` makes the box again.
use Rattle.std.proofs.Common.{◌≡◌, ◌≢◌, List, [], ◌∷◌, ◌++◌, Some, None, refl, sym, ◌∙◌, ap, subst}
use mir.Syntax.{impl, tnil, dnil}
use mir.Val.{Val, vptr, vstruct, of_list}
use base.Logic.{SProp, ent, emp, id⊢}
use base.Fml.{ftrue}
use prog.Wp.{WpFn}
use types.Kit.{‵, raw, ◌⊛◌, ◌$◌, ◌∵◌, !, qed, by, move, keep, split, fsplit, fjoin, suffices, use0}
use types.Run.{stop, fld, of_opd, no_more, and_then, returns, enter}
use types.ByLocal.{alloc_all, pass_all, free_all, look_at, get, get_in, sets}
use types.Part.{agg, sub, whole}
use contract.Monad.{fact, fact_i}
use contract.Running.{tables}
use denote.Exit.{yes}
use denote.RattleType.{owns}
use denote.Signature.{types_at, plain}
use denote.RawPtr.{Ptr, block_ptr, ptr_val}
use denote.Steps.{nothing, heard}
use denote.Triple.Walked.{Stays, stay_dropped, walk_of}
use Rattle.core.proofs.alloc.Calls.{Al, Goes-blank, handle_tells}
use Rattle.std.proofs.raw_atomic.Walks.{proved_at, leaves}
use Rattle.std_heap.specs.contracts.Global as Heap
use Rattle.std_heap.specs.contracts.GlobalAllocator.TheImpl.{ghosts}
use Rattle.std_heap.proofs.Global.TheLaws as heap
use Rattle.book_steps.specs.contracts.book.StepBook.{the_row}
use Rattle.c_handles.specs.contracts.book_handle.BookHandle as handle
use Rattle.c_handles.proofs.BoxValues.{both, RawBox, box_good, parts_in}
use Rattle.c_handles.proofs.BookValues.{one, handle_out, opened}
use Rattle.c_handles.specs.contracts.book_handle.BookHandle.show.{ended, clauses}
use Rattle.c_handles.specs.contracts.book_handle.BookHandle.show.Key.{name as #self}
use Rattle.c_handles.proofs.book_handle.BookHandle.show.Statement.{statement}
use Rattle.c_handles.proofs.book_handle.BookHandle.show.Code as code

pub show_spec : {M : Type 1} → statement M
show_spec 𝓤 𝓛 𝓜 𝓡 wired =
    let H = 𝓛.H in let 𝓣 = tables 𝓤 H 𝓜 𝓡 𝓡.env in let Z = Heap.the_row in let LZ = heap.the_row_laws in let c = clauses 𝓛 𝓜.mem 𝓡.returns in
    let fn = code.function in
    let al : Al = record { row = Z; laws = LZ; g = ghosts; d = impl [] tnil dnil; drops = impl [] tnil dnil } in
    let hs : Stays ended.signature.params ended.kept = (stay_dropped (plain (λ _. handle.the_row)) yes, (stay_dropped (plain (λ _. Z)) yes, tt)) in
    proved_at 𝓛 ended hs c 𝓜 𝓡 (Goes-blank 𝓛 0 (plain (λ _. handle.the_row)) yes (λ κs x f. tt), (Goes-blank 𝓛 0 (plain (λ _. Z)) yes (λ κs x f. tt), tt))
    #self fn (code.unfolded 𝓤 H 𝓜 𝓡 wired) (λ z are.
    let κs = z.0.0 in let d = z.0.3.0 in let a = z.0.3.1.0 in let Post : Val → SProp 𝓤 = (walk_of 𝓛 ended hs c).post z in let Run : List Val →
    SProp 𝓤 = λ ws. WpFn 𝓤 H 𝓣.C 𝓣.Λ fn ws Post in
    qed 𝓛 ((‵ ftrue ⊛ ‵ (owns (types_at ended.signature.params κs) z.0.3 z.0.4)) ∷ raw (fact 𝓤 (d.book ≢ None)) ∷ []) ∵ move ! (1 ∷ []) $ heard !
    (d.book ≢ None) (λ some.
    split ! $ move ! (1 ∷ []) $ fsplit ! $ handle_out ! d z.0.4.0 (λ ev. opened ! d.at d.book some (λ b o x ep es.
    move ! (1 ∷ []) $ fsplit ! $ handle_tells al ! a z.0.4.1.0 (λ h eh fits. move ! (2 ∷ 0 ∷ []) $
    let w : Val = one (vptr b o) in let made = box_good the_row Z LZ ghosts b o h fits in let r : (RawBox the_row Z LZ ghosts).Denot =
    record { at = block_ptr b o; alloc = a; value = x } in
    let ew : z.0.4.0 ≡ w ∷ [] = ev ∙ ap (λ (p : Ptr). vstruct (of_list (ptr_val p ∷ [])) ∷ []) ep in
    suffices ! (Run (w ∷ h ∷ [])) (subst (λ (us : List Val). ent 𝓤 (Run (w ∷ h ∷ [])) (Run us)) (sym (λ i. ew i ++ (eh i ++ []))) (id⊢ 𝓤 (Run (w ∷ h ∷ [])))) $
    enter ! 𝓣.C 𝓣.Λ fn (w ∷ h ∷ []) Post $ alloc_all ! (λ l. pass_all ! refl ((tt, (tt, tt)), (fits, tt)) $
    sets ! (of_opd ! (get_in ! (fld ! refl (stop !)) (sub ! 0 refl (whole !)))) refl (tt, tt) $ sets ! (of_opd ! (get ! refl)) refl (tt, tt) $
    sets ! (agg ! (and_then ! (get ! refl) (and_then ! (get ! refl) (no_more !)))) refl made $
    parts_in the_row Z LZ ghosts ! b o h a x $ use0 𝓛 (raw (fact 𝓤 (d.book ≡ Some x))) (fact_i 𝓤 (d.book ≡ Some x) (emp 𝓤) es) $ nothing ! $ nothing ! $
    fjoin ! $ nothing ! $ fjoin ! $
    returns ! (look_at ! 0 refl) $ free_all ! refl $ keep ! (4 ∷ 0 ∷ 2 ∷ 1 ∷ []) $ by ! (leaves 𝓛 ended hs c z (both (vptr b o) h) r (tt, (tt, tt)) (
      tt,
      (tt, tt),
    ))))))))
