use Rattle.std.proofs.Common.{◌≤◌, take, sym, ◌∙◌, subst}
use Rattle.ba_http_head.specs.declared.headings.Heading.TheVariants.{Request}
use Rattle.ba_http_head.specs.declared.scans.TheConstants.{MOST_FIELDS}
use Rattle.ba_http_head.specs.HeadLines.{field_lines}
use Rattle.ba_http_head.specs.Heads.{request_opening}
use Rattle.ba_http_head.proofs.HeadParts.{in_limits}
use Rattle.ba_http_head.proofs.Openings.{opens_fault, opens_so}
use Rattle.ba_http_head.proofs.heads.read_head.Goals as goal

pub request_head-requires-clause-few : goal.request_head-requires-clause-few
request_head-requires-clause-few g c =
    let found = c.in-Ok.ensures.found in
    let shows = found.5.2 in
    let is = sym found.5.0 ∙ sym c.as_slice.ensures in
    subst (λ v. field_lines Request (take c.in-Ok.found.len v) ≤ MOST_FIELDS) is (in_limits Request _ shows.1 shows.2)

pub returns-clause-head : goal.returns-clause-head
returns-clause-head g c =
    opens_so Request (g.K.Link.left c.args.link.now) (g.K.Link.left c.fetch.new.link) c.in-Ok.found c.as_slice.result.now
    c.as_slice-2.result.now
    (request_opening c.request_head.result) c.in-Ok.ensures.found c.as_slice.ensures c.as_slice-2.ensures c.request_head.ensures

pub returns-in-Err-clause-head : goal.returns-in-Err-clause-head
returns-in-Err-clause-head g c =
    opens_fault Request (g.K.Link.left c.args.link.now) (g.K.Link.left c.fetch.new.link) c.in-Err.fault c.in-Err.ensures.found
