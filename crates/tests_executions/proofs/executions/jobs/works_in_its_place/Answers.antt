use Rattle.std.proofs.Common.{◌≡◌, [], refl}
use Rattle.tests_executions.proofs.RunLemmas.{ok_of}
use Rattle.tests_executions.proofs.executions.jobs.works_in_its_place.Goals as goal

pub work_in_place-requires : goal.work_in_place-requires
work_in_place-requires g c =
    let none = ok_of _ _ c.expect-jobs.ensures (λ s. s.places ≡ []) c.with_room.ensures.none in
    (c.into_dyn_box-2.result, rw (c.add-2.ensures.places, c.add.ensures.places, none) refl)
