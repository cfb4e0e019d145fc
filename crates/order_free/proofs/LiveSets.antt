-- Laws of liveness. Whether a register is live before a body is one of three functions of whether it is live after the
-- body, so few facts are needed.
use Rattle.std.proofs.Common.{◌≡◌, ◌==◌, ◌⊎◌, inl, inr, ℕ, Bool, true, false, ◌||◌, refl, subst}
use Rattle.std.proofs.lemmas.Bool.{cases_Bool, or_cases, or_left, or_right, eq-eqb}
use Rattle.tac_syntax.specs.Code.{Code, branch}
use Rattle.order_free.specs.Registers.{Register, value_at, RegisterSet, is_value}
use Rattle.order_free.specs.Liveness.{is_live, live, live_at_end}

pub or_weaker : (x y z w : Bool) → (x ≡ true → z ≡ true) → (y ≡ true → w ≡ true) → (x || y) ≡ true → (z || w) ≡ true
or_weaker x y z w f g h = elim (or_cases x y h) as (λ _. (z || w) ≡ true) [
  | inl e ↦ or_left z w (f e)
  | inr e ↦ or_right z w (g e)
]

-- a register that is live before a body is live before it with nothing live after it, or is live after it
pub is_live-from : (c : Code) (r : Register) (b : Bool) → is_live c r b ≡ true → (is_live c r false ≡ true) ⊎ (b ≡ true)
is_live-from c r true h = inr refl
is_live-from c r false h = inl h

-- a second turn makes no more registers live
pub is_live-again : (c : Code) (r : Register) (b : Bool) → is_live c r (b || is_live c r b) ≡ true → is_live c r b ≡ true
is_live-again c r true h = h
is_live-again c r false h = elim (cases_Bool (is_live c r false)) as (λ _. is_live c r false ≡ true) [
  | inl e ↦ e
  | inr e ↦ subst (λ (z : Bool). is_live c r z ≡ true) e h
]

-- ---- loops

-- a register that is live before the first turn is also live before the body when no other turn may follow
pub live-first_turn : (body : Code) (behind : RegisterSet) (r : Register) → live body (live_at_end body behind) r ≡ true → live body behind r ≡ true
live-first_turn body behind r h = is_live-again body r (behind r) h

-- a register that is live before a turn is live at the end of each turn
pub live-at_end : (body : Code) (behind : RegisterSet) (r : Register) → live body (live_at_end body behind) r ≡ true → live_at_end body behind r ≡ true
live-at_end body behind r h = or_right (behind r) (live body behind r) (is_live-again body r (behind r) h)

-- a register that is live after the loop is live at the end of each turn
pub live_at_end-behind : (body : Code) (behind : RegisterSet) (r : Register) → behind r ≡ true → live_at_end body behind r ≡ true
live_at_end-behind body behind r h = or_left (behind r) (live body behind r) h

-- ---- branches

pub live-test : (on : ℕ) (body other next : Code) (behind : RegisterSet) → live (branch on body other next) behind (value_at on) ≡ true
live-test on body other next behind = or_left (on == on) (live body (live next behind) (value_at on) || live other (live next behind) (value_at on)) (eq-eqb on on refl)

pub live-body : (on : ℕ) (body other next : Code) (behind : RegisterSet) (r : Register) → live body (live next behind) r ≡ true → live (branch on body other next) behind r ≡ true
live-body on body other next behind r h =
    let p = live body (live next behind) r in
    let q = live other (live next behind) r in
    or_right (is_value on r) (p || q) (or_left p q h)

pub live-other : (on : ℕ) (body other next : Code) (behind : RegisterSet) (r : Register) → live other (live next behind) r ≡ true → live (branch on body other next) behind r ≡ true
live-other on body other next behind r h =
    let p = live body (live next behind) r in
    let q = live other (live next behind) r in
    or_right (is_value on r) (p || q) (or_right p q h)
