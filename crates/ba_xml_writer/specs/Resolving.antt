-- Believe: what prefixes mean in the one text (Namespaces in XML 1.0, sections 4 to 6).
use Rattle.std.specs.Prelude.{ℕ, Bool, true, not, ◌&&◌, List, [], ◌∷◌, ◌++◌, Option, None, Some, if◌then◌else◌, codes}
use Rattle.std.specs.List.{list_any}
use Rattle.std.specs.Str.{bytes_eq}
use Rattle.ba_xml_writer.specs.Namespaces.{Declaration}

-- the prefix by which a namespace is named: that of its first declaration
abbrev pub prefix_of : List Declaration → List ℕ → Option (List ℕ)
prefix_of [] space = None
prefix_of (d ∷ ds) space = if bytes_eq space d.space then Some d.prefix else prefix_of ds space

-- the namespace that a prefix means: that of its first declaration
abbrev pub space_of : List Declaration → List ℕ → Option (List ℕ)
space_of [] prefix = None
space_of (d ∷ ds) prefix = if bytes_eq prefix d.prefix then Some d.space else space_of ds prefix

-- what is written before a local part
abbrev pub before_colon : Option (List ℕ) → List ℕ → List ℕ
before_colon None rest = rest
before_colon (Some prefix) rest = prefix ++ (codes ":" ++ rest)

-- no prefix is declared twice
abbrev pub prefixes_differ : List Declaration → Bool
prefixes_differ [] = true
prefixes_differ (d ∷ ds) = not (list_any (λ e. bytes_eq d.prefix e.prefix) ds) && prefixes_differ ds
