-- Inside: how many objects a scope is and has, and the count of those that is kept.
use Rattle.std.specs.Prelude.{◌≡◌, ℕ, length}
use Rattle.std.specs.List.{sum_by}
use Rattle.ba_node_objects.specs.Objects.{node_of_fields}
use Rattle.ba_node_objects.specs.declared.fields.Fields.{Fields}
use Rattle.ba_scope.specs.Scope.{ScopeState}
use Rattle.ba_node_steps.specs.Fits.{NodeFits}
use Rattle.ba_node_steps.specs.Node.{scope_ids}
use Rattle.ba_tree.specs.Lengths.{in_u64}

abbrev pub id_count : ScopeState → ℕ
id_count s = length (scope_ids s)

-- the count that is kept is that of the scopes' objects
abbrev pub IsCounted : Fields → Type 0
IsCounted f = f.in_scopes ≡ in_u64 (sum_by id_count f.scopes.items)

pub record FieldsFit (f : Fields) : Type 0 where
  pub node : NodeFits (node_of_fields f)
  pub count : IsCounted f
