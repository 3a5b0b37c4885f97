-- The look-up of a further namespace, one step at a time.
use Rattle.std.proofs.Common.{◌≡◌, ℕ, ◌+◌, ◌<◌, List, ◌++◌, length, drop, get_or, refl, add-one, if◌then◌else◌, codes, decimal}
use Rattle.std.proofs.Math.Seq.{drop-cons}
use Rattle.std.specs.Str.{bytes_eq}
use Rattle.ba_xml_writer.specs.Namespaces.{numbered}
use Rattle.ba_xml_writer.specs.OneText.{prefixed}

pub look : (fs : List (List ℕ)) (space : List ℕ) (i : ℕ) (f : List ℕ) (rest : List ℕ) → i < length fs → f ≡ get_or fs i f
    → prefixed (numbered (i + 1) (drop i fs)) space rest
    ≡ (if bytes_eq space f then codes "n" ++ decimal (i + 1)
    ++ (codes ":" ++ rest) else prefixed (numbered (i + 1 + 1) (drop (i + 1) fs)) space rest)
look fs space i f rest h e = rw (drop-cons fs i f h, add-one i, ← e) refl
