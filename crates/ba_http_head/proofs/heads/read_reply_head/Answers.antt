use Rattle.std.proofs.Common.{◌≤◌, take, sym, ◌∙◌, subst}
use Rattle.ba_http_head.specs.declared.headings.Heading.TheVariants.{Reply}
use Rattle.ba_http_head.specs.declared.scans.TheConstants.{MOST_FIELDS}
use Rattle.ba_http_head.specs.HeadLines.{field_lines}
use Rattle.ba_http_head.specs.Heads.{reply_opening}
use Rattle.ba_http_head.proofs.HeadParts.{in_limits}
use Rattle.ba_http_head.proofs.Openings.{opens_fault, opens_so}
use Rattle.ba_http_head.proofs.heads.read_reply_head.Goals as goal

pub reply_head-requires-clause-few : goal.reply_head-requires-clause-few
reply_head-requires-clause-few g c =
    let found = c.in-Ok.ensures.found in
    let shows = found.5.2 in
    let is = sym found.5.0 ∙ sym c.as_slice.ensures in
    subst (λ v. field_lines Reply (take c.in-Ok.found.len v) ≤ MOST_FIELDS) is (in_limits Reply _ shows.1 shows.2)

pub returns-clause-head : goal.returns-clause-head
returns-clause-head g c =
    opens_so Reply (g.K.Link.left c.args.link.now) (g.K.Link.left c.fetch.new.link) c.in-Ok.found c.as_slice.result.now
    c.as_slice-2.result.now
    (reply_opening c.reply_head.result) c.in-Ok.ensures.found c.as_slice.ensures c.as_slice-2.ensures c.reply_head.ensures

pub returns-in-Err-clause-head : goal.returns-in-Err-clause-head
returns-in-Err-clause-head g c =
    opens_fault Reply (g.K.Link.left c.args.link.now) (g.K.Link.left c.fetch.new.link) c.in-Err.fault c.in-Err.ensures.found
