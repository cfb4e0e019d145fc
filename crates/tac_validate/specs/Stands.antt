-- Where a statement is, as the code keeps it.
use Rattle.std.specs.Prelude.{ℕ, ◌≤◌, ◌+◌, ◌*◌, ◌^◌, ◌-◌, min}
use Rattle.tac_syntax.specs.Places.{Place}
use Rattle.tac_validate.specs.declared.places.Place.{Place as Stand}

abbrev pub place_of : Stand → Place
place_of s = record { kind = s.kind; keys = s.keys; fields = s.fields; ifs = s.ifs; loops = s.loops; lists = s.lists; repeats = s.repeats }

-- the largest number of turns of nested `repeat` that the code can hold
abbrev pub most_turns : ℕ
most_turns = 2 ^ 64 - 1

-- inside a `repeat`, with the turns capped at that number
abbrev pub in_repeat_capped : ℕ → Place → Place
in_repeat_capped count p = record p { loops = p.loops + 1; repeats = min (p.repeats * count) most_turns }

-- The blocks around a statement begin before it, so there are no more of them than its number.
pub record IsAround (s : Stand) (number : ℕ) : Type 0 where
  pub ifs : s.ifs ≤ number
  pub loops : s.loops ≤ number
  pub lists : s.lists ≤ number
