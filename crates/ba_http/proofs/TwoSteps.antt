-- A head that was read, and then its body, which some taker was given, are a message; for the law.
use Rattle.std.proofs.Common.{ℕ, List, ◌++◌, Option, Ok, Err}
use Rattle.ba_http_head.specs.declared.faults.HttpFault.{HttpFault}
use Rattle.ba_http_head.specs.declared.headings.Heading.{Heading}
use Rattle.ba_http_head.specs.Heads.{Opening, Opens}
use Rattle.ba_http.specs.Bodies.{GivesBody}
use Rattle.ba_http.specs.Messages.{Reads}
use Rattle.ba_http.proofs.AfterHead.{after_head}
use Rattle.ba_http.proofs.Taken.{body_given, body_refused}

pub body_after : (heading : Heading) (old mid new : Option (List ℕ)) (opening : Opening) (before after : List ℕ → Type 0)
    → Opens heading old mid (Ok opening) → GivesBody before after opening.length opening.rest mid new (Ok tt)
    → (body : List ℕ) × ((given : List ℕ) → before given → after (given ++ body))
    × Reads heading old new (Ok (record { start = opening.start; body = body }))
body_after heading old mid new opening before after opens gives =
    let told = body_given before after opening.length opening.rest mid new gives in
    (told.0, told.1, after_head heading old mid new opening (Ok told.0) opens told.2)

pub refusal_after : (heading : Heading) (old mid new : Option (List ℕ)) (opening : Opening) (before after : List ℕ → Type 0)
    (fault : HttpFault)
    → Opens heading old mid (Ok opening) → GivesBody before after opening.length opening.rest mid new (Err fault)
    → Reads heading old new (Err fault)
refusal_after heading old mid new opening before after fault opens gives =
    after_head heading old mid new opening (Err fault) opens (body_refused before after opening.length opening.rest mid new fault gives)
