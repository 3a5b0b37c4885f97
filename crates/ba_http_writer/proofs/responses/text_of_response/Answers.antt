use Rattle.std.proofs.Common.{refl}
use Rattle.ba_http_writer.proofs.responses.text_of_response.Goals as goal

pub returns : goal.returns
returns c =
    rw (
      c.in_ok-append-10.ensures.ok,
      c.in_ok-append-9.ensures.ok,
      c.in_ok-append-8.ensures.ok,
      c.in_ok-append-7.ensures.ok,
      c.in_ok-append-6.ensures.ok,
      c.in_ok-append-5.ensures.ok,
      c.in_ok-append-4.ensures.ok,
      c.in_ok-append-3.ensures.ok,
      c.in_ok-append-2.ensures.ok,
      c.in_ok-append.ensures.ok,
      c.new-text.ensures,
      c.as_bytes.ensures.value,
      c.format.ensures.text,
      c.as_bytes-2.ensures.value,
      ← c.phrase_of.ensures,
      c.type_line.ensures,
      c.as_bytes-3.ensures.value,
      c.format-2.ensures.text,
    ) refl
