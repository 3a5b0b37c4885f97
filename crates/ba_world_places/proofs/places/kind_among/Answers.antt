use Rattle.std.proofs.Common.{◌∙◌, ap}
use Rattle.std.specs.Option.{option_map}
use Rattle.ba_world_places.proofs.ScopeLemmas.{first_known}
use Rattle.ba_world_places.specs.declared.places.KnownScope.{KnownScope}
use Rattle.ba_world_places.proofs.places.kind_among.Goals as goal

pub returns-in-Some : goal.returns-in-Some
returns-in-Some c = ap (option_map (λ (k : KnownScope). k.kind)) c.in-Some.ensures ∙ first_known c.args.known.now c.args.id

pub returns-in-None : goal.returns-in-None
returns-in-None c = ap (option_map (λ (k : KnownScope). k.kind)) c.in-None.ensures ∙ first_known c.args.known.now c.args.id
