-- Chains: lists of nodes, each of which leads to the next one.
use Rattle.std.specs.Prelude.{ℕ, ◌+◌, ◌-◌, ◌==◌, if◌then◌else◌, List, get_or, slice_set}
use Rattle.chain_arena.specs.declared.joins.Chain.{Chain}

-- the chain without nodes
abbrev pub empty_chain : Chain
empty_chain = record { first = 0; last = 0; count = 0 }

-- the chain of one node
abbrev pub single_of : ℕ → Chain
single_of node = record { first = node; last = node; count = 1 }

-- the nodes of the first chain and then those of the second
abbrev pub joined : Chain → Chain → Chain
joined a b = if b.count == 0 then a else (if a.count == 0 then b else record { first = a.first; last = b.last; count = a.count + b.count })

-- the links of the nodes then: the last node of the first chain leads to the first node of the second
abbrev pub joined_next : List ℕ → Chain → Chain → List ℕ
joined_next next a b = if b.count == 0 then next else (if a.count == 0 then next else slice_set next a.last b.first)

-- a chain with nodes, without its first node
abbrev pub without_first_of : List ℕ → Chain → Chain
without_first_of next a = record { first = get_or next a.first 0; last = a.last; count = a.count - 1 }
