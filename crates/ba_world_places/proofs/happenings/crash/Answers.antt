use Rattle.ba_world_places.proofs.OpeningLemmas.{crash_leads}
use Rattle.ba_world_places.proofs.happenings.crash.Goals as goal

pub returns : goal.returns
returns c = λ n disk matches.
    crash_leads n disk c.args.held c.in_ok-disk.disk c.restart.new.self c.in_ok-disk.known matches c.in_ok-disk.ensures.disk
    c.restart.ensures (c.in_ok-disk.ensures.scopes n disk matches.place)
