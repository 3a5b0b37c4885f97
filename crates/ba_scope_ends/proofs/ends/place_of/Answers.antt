use Rattle.ba_scope_ends.specs.Ends.{same_id}
use Rattle.ba_scope_ends.specs.declared.ends.End.{End}
use Rattle.ba_scope_ends.proofs.Places.{within_if_some, found_if_some, none_if_none}
use Rattle.ba_scope_ends.proofs.ends.place_of.Goals as goal

pub returns : goal.returns
returns c =
    let test = λ (e : End). same_id e.id c.args.id in
    record {
      within = within_if_some test c.args.ends.now c.position_of.result c.position_of.ensures;
      found = found_if_some test c.args.ends.now c.position_of.result c.position_of.ensures;
      none = none_if_none test c.args.ends.now c.position_of.result c.position_of.ensures;
    }
