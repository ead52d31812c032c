use Rattle.std.proofs.Common.{◌<◌, length, arith, ap, ◌∙◌}
use Rattle.std.proofs.lemmas.Result.{on_ok_weaker}
use Rattle.sched_base.specs.FirstFit.{first_with_room}
use Rattle.server_pack.specs.Servers.{rates_of, put_in}
use Rattle.server_pack.proofs.PackLemmas.{put_in-joined, put_in-opened}
use Rattle.server_pack.proofs.fitting.place.Goals as goal

pub returns-then-home-len : goal.returns-then-home-len
returns-then-home-len c =
    let home = c.first_room-home.ensures ∙ ap (λ xs. first_with_room c.args.scale c.args.rate (rates_of xs)) c.deref.ensures.value in
    let l : c.first_room-home.result < length c.args.servers.now.items = omega arith in
    on_ok_weaker _ (λ made.
    put_in-joined c.args.rate c.args.item c.first_room-home.result c.args.servers.now.items c.index_mut.result.now c.join.new.server l
    c.index_mut.ensures.value made
    ∙ ap (λ b. put_in c.args.rate c.args.item b c.args.servers.now.items) home) c.join.ensures.ok

pub returns-else-home-len : goal.returns-else-home-len
returns-else-home-len c =
    let home = c.first_room-home.ensures ∙ ap (λ xs. first_with_room c.args.scale c.args.rate (rates_of xs)) c.deref.ensures.value in
    on_ok_weaker c.open.result (λ made. made ∙ put_in-opened c.args.scale c.args.rate c.args.item c.args.servers.now.items (omega arith)) c.open.ensures
