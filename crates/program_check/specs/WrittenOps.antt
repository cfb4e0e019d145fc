-- Sources and operators whose keys may still be too large to be fields.
use Rattle.std.specs.Prelude.{◌≤◌, nat_lt, ℕ, List, length, filter, map}
use Rattle.pact_record.specs.declared.records.TheConstants.{MAX_FIELDS}
use Rattle.pact_record.specs.Keys.{key_limit}
use Rattle.tac_syntax.specs.declared.declarations.Decl.{Decl}
use Rattle.tac_syntax.specs.declared.declarations.Decl.TheVariants.{Op as OpDecl}
use Rattle.pact_operators.specs.declared.operators.Op.{Op}
use Rattle.tac_syntax.specs.Drafts.{DraftData}
use Rattle.pact_operators.specs.Resolved.{function_names, ops_of}

-- the numbers that can be fields
abbrev pub small_keys : List ℕ → List ℕ
small_keys keys = filter (λ k. nat_lt k MAX_FIELDS) keys

abbrev pub with_small_keys : Op → Op
with_small_keys op =
    record { name = op.name; kind = op.kind; function = op.function; left_keys = small_keys op.left_keys; right_keys = small_keys op.right_keys; file = op.file; columns = op.columns }

-- the sources and operators of a draft, without the keys that are too large
abbrev pub small_ops : DraftData → List Op
small_ops d = map with_small_keys (ops_of (function_names d.functions) d.decls)

-- A declaration's lists of keys are no longer than those of an operator may be.
abbrev pub HasFewKeys : Decl → Type 0
HasFewKeys (OpDecl name kind function left right left_keys right_keys) = (length left_keys ≤ key_limit) × (length right_keys ≤ key_limit)
HasFewKeys decl = Unit {0}
