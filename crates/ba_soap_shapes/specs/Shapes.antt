-- Believe: shapes of elements are the rows of a table, one a child; what is out of shape at the least number comes first.
-- Elements are numbered in document order.
use Rattle.std.specs.Prelude.{bytes_eq, ℕ, Bool, true, false, ◌+◌, ◌&&◌, List, [], ◌∷◌, Option, Some, None, if◌then◌else◌, nat_lt}
use Rattle.ba_tree.specs.declared.trees.Tree.{Tree}
use Rattle.ba_tree.specs.Namespaces.{wsa_space, own_space}
use Rattle.ba_soap_shapes.specs.declared.shapes.Misfit.{Misfit}
use Rattle.ba_soap_shapes.specs.declared.shapes.Why.{Why}
use Rattle.ba_soap_shapes.specs.declared.shapes.Why.TheVariants.{Mismatch, Limit}
use Rattle.ba_soap_shapes.specs.declared.shapes.Space.{Space}
use Rattle.ba_soap_shapes.specs.declared.shapes.Space.TheVariants as space
use Rattle.ba_soap_shapes.specs.declared.shapes.Need.{Need}
use Rattle.ba_soap_shapes.specs.declared.shapes.Need.TheVariants.{Required, Optional}
use Rattle.ba_soap_shapes.specs.declared.shapes.Row.{Row}
use Rattle.ba_soap_shapes.specs.Elements.{Found, first_child, in_u32}

abbrev pub mismatch_at : ℕ → Misfit
mismatch_at n = record { number = n; why = Mismatch }

abbrev pub limit_at : ℕ → Misfit
limit_at n = record { number = n; why = Limit }

abbrev pub is_limit : Why → Bool
is_limit Mismatch = false
is_limit Limit = true

-- `b` comes before `a`: by its number, and at one number a mismatch before a limit
abbrev pub comes_before : Misfit → Misfit → Bool
comes_before b a =
    if is_limit a.why then (if is_limit b.why then nat_lt b.number a.number else nat_lt b.number (a.number + 1)) else nat_lt
    b.number a.number

-- the one of two that comes first
abbrev pub earlier_misfit : Option Misfit → Option Misfit → Option Misfit
earlier_misfit None b = b
earlier_misfit (Some a) None = Some a
earlier_misfit (Some a) (Some b) = if comes_before b a then Some b else Some a

-- what is wrong with an element that has this number, if anything
abbrev pub Look : Type 0
Look = ℕ → Tree → Option Misfit

-- the namespace of a row's child in an element of that namespace
abbrev pub space_in : Space → List ℕ → List ℕ
space_in space.Parent outer = outer
space_in space.Addressing outer = wsa_space
space_in space.Own outer = own_space
space_in space.Bare outer = []

-- a row of the table of a shape: a child, whether it has to be there, and its form
pub record Line (F : Type 0) : Type 0 where
  pub space : Space
  pub local : List ℕ
  pub need : Need
  pub form : F

abbrev pub required_child : {F : Type 0} → Space → List ℕ → F → Line F
required_child s l f = record { space = s; local = l; need = Required; form = f }

abbrev pub optional_child : {F : Type 0} → Space → List ℕ → F → Line F
optional_child s l f = record { space = s; local = l; need = Optional; form = f }

abbrev pub line_of : {F : Type 0} → Row F → Line F
line_of row = record { space = row.space; local = row.local.now; need = row.need; form = row.form }

abbrev pub names : {F : Type 0} → Line F → Tree → Tree → Bool
names row parent child = bytes_eq child.name.space (space_in row.space parent.name.space) && bytes_eq child.name.local row.local

-- ---- a row: the child that it names is missing, or stands there twice, or is itself out of shape

abbrev pub missing_misfit : Need → ℕ → Option Misfit
missing_misfit Required n = Some (mismatch_at n)
missing_misfit Optional n = None

abbrev pub second_misfit : Option Found → Option Misfit
second_misfit None = None
second_misfit (Some found) = Some (mismatch_at found.number)

abbrev pub misfit_by_first : {F : Type 0} → (F → Look) → Line F → (Tree → Bool) → ℕ → Option Found → Option Misfit
misfit_by_first look row named n None = missing_misfit row.need n
misfit_by_first look row named n (Some found) =
    earlier_misfit (look row.form found.number found.tree) (second_misfit (first_child named found.next found.rest))

abbrev pub row_misfit : {F : Type 0} → (F → Look) → Line F → Look
row_misfit look row n t = misfit_by_first look row (names row t) n (first_child (names row t) (in_u32 (n + 1)) t.content)

-- this misfit, and what is out of shape by these rows: the first of all
abbrev pub misfit_with_rows : {F : Type 0} → (F → Look) → Option Misfit → List (Line F) → Look
misfit_with_rows look least [] n t = least
misfit_with_rows look least (row ∷ rows) n t = misfit_with_rows look (earlier_misfit least (row_misfit look row n t)) rows n t

abbrev pub rows_misfit : {F : Type 0} → (F → Look) → List (Line F) → Look
rows_misfit look = misfit_with_rows look None
