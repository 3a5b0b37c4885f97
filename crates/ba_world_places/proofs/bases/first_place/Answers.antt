use Rattle.std.proofs.Common.{◌≡◌, ◌<◌, ◌^◌, false, arith, refl, sym, ◌∙◌, subst}
use Rattle.ba_world_places.proofs.OpeningLemmas.{IsLoaded, loaded_of}
use Rattle.ba_world_places.proofs.StartLemmas.{base_is_one, first_leads}
use Rattle.ba_record.specs.Endpoints.{IsBase}
use Rattle.ba_world_places.proofs.bases.first_place.Goals as goal

pub load-requires-clause-is_base : goal.load-requires-clause-is_base
load-requires-clause-is_base c =
    let small : c.args.number < 2 ^ 32 = omega arith in
    subst IsBase (sym c.in_ok-base_of.ensures) (base_is_one c.args.number c.requires small)

pub returns-in-Ok : goal.returns-in-Ok
returns-in-Ok c =
    let base = c.in_ok-base_of.field-0 in
    let node = c.in-Ok.node in
    let fed : node.disk.starved ≡ false = sym c.starved.ensures ∙ c.if-starved.false in
    let loaded : IsLoaded c.args.number base c.new.result node =
    loaded_of c.args.number base c.new.result node c.in-Ok.ensures.opened (c.in-Ok.ensures.replay refl) c.in-Ok.ensures.calls fed
    c.ready.ensures.spare in
    first_leads c.args.number base c.new.result node c.ready.result c.in_ok-base_of.ensures c.new.ensures loaded c.ready.ensures.place
