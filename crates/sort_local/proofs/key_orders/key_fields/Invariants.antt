use Rattle.std.proofs.Common.{◌≡◌, length, take, vec_capacity, vec_len}
use Rattle.sort_local.proofs.key_orders.key_fields.Given as goal

abbrev pub invariant-loop-n : goal.invariant-loop-n
invariant-loop-n l = (l.fields.items ≡ take l.n l.keys) × (vec_len l.fields ≡ l.n) × (vec_capacity l.fields ≡ length l.keys)
