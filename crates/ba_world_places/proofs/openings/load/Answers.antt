use Rattle.std.proofs.Common.{◌≡◌, ◌<◌, ◌^◌, false, arith, refl, sym, ◌∙◌, subst}
use Rattle.ba_world_places.proofs.OpeningLemmas.{IsLoaded, loaded_of, opened_leads, unopened_by}
use Rattle.ba_world_places.proofs.StartLemmas.{base_is_one}
use Rattle.ba_record.specs.Endpoints.{IsBase}
use Rattle.ba_world_places.proofs.openings.load.Goals as goal

pub load-requires-clause-is_base : goal.load-requires-clause-is_base
load-requires-clause-is_base c =
    let small : c.args.number < 2 ^ 32 = omega arith in
    subst IsBase (sym c.in_ok-base_of.ensures) (base_is_one c.args.number c.requires small)

pub returns-else-starved : goal.returns-else-starved
returns-else-starved c = λ n held lawful ready knows.
    let base = c.in_ok-base_of.field-0 in
    let node = c.in-Ok.node in
    let fed : node.disk.starved ≡ false = sym c.starved.ensures ∙ c.if-starved.false in
    let loaded : IsLoaded c.args.number base c.args.disk node =
    loaded_of c.args.number base c.args.disk node c.in-Ok.ensures.opened (c.in-Ok.ensures.replay refl) c.in-Ok.ensures.calls fed
    c.ready.ensures.spare in
    opened_leads c.args.number base n held c.args.disk lawful ready node c.ready.result loaded c.ready.ensures.place

pub returns-else-starved-2 : goal.returns-else-starved-2
returns-else-starved-2 c =
    let d1 = c.in-Err.disk in
    let fed : d1.starved ≡ false = sym c.starved-in-Err.ensures ∙ c.if-starved-2.false in
    unopened_by c.args.number c.in_ok-base_of.field-0 c.args.disk d1 c.args.known c.in-Err.fault fed (c.in-Err.ensures.any_moment refl)
    c.in-Err.ensures.calls c.unloaded.result c.unloaded.ensures
