-- A head, and then a body that is taken on as one list; for the clauses `request` and `reply`.
use Rattle.std.proofs.Common.{◌≡◌, ℕ, List, [], subst, Option, Result, Ok}
use Rattle.ba_http_head.specs.declared.faults.HttpFault.{HttpFault}
use Rattle.ba_http_head.specs.declared.headings.Heading.{Heading}
use Rattle.ba_http_head.specs.Heads.{Opening, Opens}
use Rattle.ba_http.specs.Bodies.{GivesBody}
use Rattle.ba_http.specs.Messages.{Reads}
use Rattle.ba_http.specs.inside.Bodies.{body_or}
use Rattle.ba_http.proofs.AfterHead.{message_or, after_head}
use Rattle.ba_http.proofs.Taken.{taken_on}

pub whole_message : (heading : Heading) (old mid new : Option (List ℕ)) (opening : Opening) (none body hand : List ℕ)
    (result : Result (Unit {0}) HttpFault) → none ≡ [] → hand ≡ opening.rest → Opens heading old mid (Ok opening)
    → GivesBody (λ list. none ≡ list) (λ list. body ≡ list) opening.length hand mid new result
    → Reads heading old new (message_or opening.start (body_or body result))
whole_message heading old mid new opening none body hand result is same opens gives =
    after_head heading old mid new opening (body_or body result) opens
    (taken_on none body is opening.length opening.rest mid new result
    (subst (λ v. GivesBody (λ list. none ≡ list) (λ list. body ≡ list) opening.length v mid new result) same gives))
