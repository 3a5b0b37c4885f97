use Rattle.std.proofs.Common.{◌≡◌, ℕ, ◌-◌, List, length, take, drop, take_all, length-drop, arith, refl}
use Rattle.ba_http_writer.proofs.requests.text_of_request.Goals as goal

rest_of : (n : ℕ) (xs : List ℕ) → take (length xs - n) (drop n xs) ≡ drop n xs
rest_of n xs = take_all (length xs - n) (drop n xs) (omega (arith, length-drop n xs))

pub returns : goal.returns
returns c =
    rw (
      c.in_ok-append-10.ensures.ok,
      c.in_ok-append-9.ensures.ok,
      c.in_ok-append-8.ensures.ok,
      c.in_ok-append-7.ensures.ok,
      c.in_ok-append_action.ensures,
      c.in_ok-append-6.ensures.ok,
      c.in_ok-append-5.ensures.ok,
      c.in_ok-append-4.ensures.ok,
      c.in_ok-append-3.ensures.ok,
      c.in_ok-append-2.ensures.ok,
      c.in_ok-append.ensures.ok,
      c.new-text.ensures,
      c.target_of.ensures,
      rest_of c.authority_len-len.result c.args.address.now,
      c.authority_len-len.ensures.len,
      c.type_line.ensures,
      c.body_kind.ensures,
      c.as_bytes.ensures.value,
      c.format.ensures.text,
    ) refl
