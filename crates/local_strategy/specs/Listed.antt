-- Records grouped by key, in a list of groups that is scanned.
use Rattle.std.specs.Prelude.{ℕ, Bool, List}
use Rattle.pact_record.specs.declared.values.Value.{Value}

-- The key fields, the groups in the order in which their keys came, and whether no more records will come.
pub record ListData : Type 0 where
  pub keys : List ℕ
  pub groups : List (List (List Value))
  pub is_sealed : Bool
