use Rattle.std.proofs.Common.{◌≡◌, ℕ, ◌-◌, List, length, take, drop, take_all, length-drop, arith, ap, ◌∙◌, subst}
use Rattle.std.specs.Io.KnownBytes.{Appends}
use Rattle.ba_ports.specs.Outputs.{WritesPart}
use Rattle.ba_http_writer.specs.Texts.{text_to, request_text}
use Rattle.ba_http_writer.proofs.requests.write_request.Goals as goal

rest_of : (n : ℕ) (xs : List ℕ) → take (length xs - n) (drop n xs) ≡ drop n xs
rest_of n xs = take_all (length xs - n) (drop n xs) (omega (arith, length-drop n xs))

-- what is sent is the request to the address
sent : (address action body text now : List ℕ) → now ≡ text → text ≡ text_to (take (length address - 7) (drop 7 address)) action body
    → now ≡ request_text address action body
sent address action body text now same is = same ∙ is ∙ ap (λ v. text_to v action body) (rest_of 7 address)

pub returns-clause-part : goal.returns-clause-part
returns-clause-part g c = λ _.
    subst (WritesPart (g.K.Link.written c.args.link.now) (g.K.Link.written c.send_all.new.link))
    (sent c.args.address.now c.args.action.now c.args.body.now c.in-Ok.text c.as_slice.result.now c.as_slice.ensures c.in-Ok.ensures)
    c.in-Err.ensures.part

pub returns-in-Ok-send_all-clause-request : goal.returns-in-Ok-send_all-clause-request
returns-in-Ok-send_all-clause-request g c =
    subst (Appends (g.K.Link.written c.args.link.now) (g.K.Link.written c.send_all.new.link))
    (sent c.args.address.now c.args.action.now c.args.body.now c.in-Ok.text c.as_slice.result.now c.as_slice.ensures c.in-Ok.ensures)
    c.in-Ok-send_all.ensures.all
