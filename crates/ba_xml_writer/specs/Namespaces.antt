-- Believe: the namespaces that a tree's names are in, and the prefixes by which its one text names them
-- (Namespaces in XML 1.0, sections 2 and 3).
use Rattle.std.specs.Prelude.{ℕ, ◌+◌, List, [], ◌∷◌, ◌++◌, Bool, not, filter, codes, decimal}
use Rattle.std.specs.List.{list_any}
use Rattle.std.specs.Str.{bytes_eq}
use Rattle.ba_tree.specs.Namespaces as core
use Rattle.ba_tree.specs.Trees.{namespaces}
use Rattle.ba_tree.specs.declared.trees.Tree.{Tree}

-- a prefix, and the namespace that it is declared as
pub record Declaration : Type 0 where
  pub prefix : List ℕ
  pub space : List ℕ

abbrev pub declaration : List ℕ → List ℕ → Declaration
declaration p s = record { prefix = p; space = s }

-- the namespaces by the names that this crate's proofs don't open
unfoldable pub soap_space : List ℕ
soap_space = core.soap_space

unfoldable pub wsa_space : List ℕ
wsa_space = core.wsa_space

unfoldable pub wscoor_space : List ℕ
wscoor_space = core.wscoor_space

unfoldable pub wsba_space : List ℕ
wsba_space = core.wsba_space

unfoldable pub xml_space : List ℕ
xml_space = core.xml_space

-- the prefix xml is never declared (Namespaces in XML 1.0, section 3)
abbrev pub xml : Declaration
xml = declaration (codes "xml") xml_space

-- what each root declares first, in this order
abbrev pub fixed : List Declaration
fixed =
    declaration (codes "soap") soap_space
    ∷ declaration (codes "wsa") wsa_space
    ∷ declaration (codes "wscoor") wscoor_space
    ∷ declaration (codes "wsba") wsba_space
    ∷ []

-- the other namespaces, by n and a number
abbrev pub numbered : ℕ → List (List ℕ) → List Declaration
numbered n [] = []
numbered n (s ∷ spaces) = declaration (codes "n" ++ decimal n) s ∷ numbered (n + 1) spaces

-- what the root declares where these are the other namespaces of its tree
abbrev pub declared : List (List ℕ) → List Declaration
declared further = fixed ++ numbered 1 further

-- what holds in the whole text
abbrev pub text_scope : List (List ℕ) → List Declaration
text_scope further = xml ∷ declared further

-- the namespace is neither none nor one that has its prefix in every text
abbrev pub is_further : List ℕ → Bool
is_further s = not (list_any (bytes_eq s) ([] ∷ xml_space ∷ soap_space ∷ wsa_space ∷ wscoor_space ∷ wsba_space ∷ []))

-- the further namespaces of a tree, in order of first appearance: an element's name, its attributes, its content
abbrev pub further : Tree → List (List ℕ)
further t = filter is_further (namespaces t)
