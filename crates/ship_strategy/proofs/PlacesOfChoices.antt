-- The number of a list of choices is its place in their order.
use Rattle.std.proofs.Common.{◌≡◌, ◌≤◌, ◌<◌, ◌+◌, ◌*◌, ◌/◌, ◌%◌, ℕ, zero, suc, List, [], ◌∷◌, refl, ap, ◌∙◌, arith}
use Rattle.std.proofs.lemmas.Nat.{div-add-mod', div-mul-add}
use Rattle.std.proofs.Math.Nat.{add-mul, mul_assoc, mod-lt, mod-eq_of_lt, add-mul-mod_self_right, mul-le-mul_right}
use Rattle.tac_syntax.specs.declared.declarations.OpKind.{OpKind}
use Rattle.tac_syntax.specs.declared.declarations.OpKind.TheVariants.{Source, Map, Reduce, Match, Cross, CoGroup}
use Rattle.pact_operators.specs.declared.operators.Op.{Op}
use Rattle.ship_strategy.specs.Layouts.{choices_of, layout_count, left_over, choices, AreChoices, place_of}

some_choice : (kind : OpKind) → 0 < choices_of kind
some_choice Source = omega arith
some_choice Map = omega arith
some_choice Reduce = omega arith
some_choice Match = omega arith
some_choice Cross = omega arith
some_choice CoGroup = omega arith

pub are_choices : (ops : List Op) (number : ℕ) → AreChoices ops (choices ops number)
are_choices [] number = tt
are_choices (op ∷ ops) number = (mod-lt (left_over ops number) (some_choice op.kind), are_choices ops number)

digits : (a b r l p q n : ℕ) → a * r + b ≡ q → q * l + p ≡ n → a * (r * l) + (b * l + p) ≡ n
digits a b r l p q n e f =
    let one : a * r * l ≡ a * (r * l) = mul_assoc a r l in
    let two : (a * r + b) * l ≡ a * r * l + b * l = add-mul (a * r) b l in
    let three : (a * r + b) * l ≡ q * l = ap (λ (x : ℕ). x * l) e in
    omega (arith, one, two, three, f)

pub whole : (ops : List Op) (number : ℕ) → left_over ops number * layout_count ops + place_of ops (choices ops number) ≡ number
whole [] number = omega arith
whole (op ∷ ops) number =
    let q = left_over ops number in
    let r = choices_of op.kind in
    digits (q / r) (q % r) r (layout_count ops) (place_of ops (choices ops number)) q number (div-add-mod' q r) (whole ops number)

nothing_left : (x l p n : ℕ) → x * l + p ≡ n → n < l → p ≡ n
nothing_left zero l p n e h = omega (arith, e)
nothing_left (suc x) l p n e h = absurd (let more : suc x * l ≡ l + x * l = (omega arith) in omega (arith, e, h, more))

-- a layout's number is the place of its choices
pub place_back : (ops : List Op) (number : ℕ) → number < layout_count ops → place_of ops (choices ops number) ≡ number
place_back ops number h = nothing_left (left_over ops number) (layout_count ops) (place_of ops (choices ops number)) number (whole ops number) h

pub place_below : (ops : List Op) (cs : List ℕ) → AreChoices ops cs → place_of ops cs < layout_count ops
place_below [] cs h = omega arith
place_below (op ∷ ops) [] h = absurd h
place_below (op ∷ ops) (c ∷ cs) h =
    let below = place_below ops cs h.1 in
    let l = layout_count ops in
    let r = choices_of op.kind in
    let room : (c + 1) * l ≤ r * l = mul-le-mul_right l (let lt = h.0 in omega (arith, lt)) in
    let more : (c + 1) * l ≡ c * l + 1 * l = add-mul c 1 l in
    omega (arith, below, room, more)

record Kept (ops : List Op) (cs : List ℕ) (x number : ℕ) : Type 0 where
  left : left_over ops number ≡ x
  same : choices ops number ≡ cs

kept : (ops : List Op) (cs : List ℕ) (x number : ℕ) → AreChoices ops cs → x * layout_count ops + place_of ops cs ≡ number → Kept ops cs x number
kept [] [] x number h e = record { left = omega (arith, e); same = refl }
kept [] (c ∷ cs) x number h e = absurd h
kept (op ∷ ops) [] x number h e = absurd h
kept (op ∷ ops) (c ∷ cs) x number h e =
    let l = layout_count ops in
    let r = choices_of op.kind in
    let p = place_of ops cs in
    let one : x * r * l ≡ x * (r * l) = mul_assoc x r l in
    let two : (x * r + c) * l ≡ x * r * l + c * l = add-mul (x * r) c l in
    let below : (x * r + c) * l + p ≡ number = omega (arith, one, two, e) in
    let k = kept ops cs (x * r + c) number h.1 below in
    let turned : x * r + c ≡ c + x * r = omega arith in
    let digit : (x * r + c) % r ≡ c = ap (λ (y : ℕ). y % r) turned ∙ add-mul-mod_self_right c x r ∙ mod-eq_of_lt h.0 in
    let head : left_over ops number % r ≡ c = ap (λ (y : ℕ). y % r) k.left ∙ digit in
    let tail = k.same in
    record {
      left = ap (λ (y : ℕ). y / r) k.left ∙ div-mul-add x r c h.0;
      same = λ i. head i ∷ tail i;
    }

-- and each list of choices is that of the layout numbered by its place
pub choices_back : (ops : List Op) (cs : List ℕ) → AreChoices ops cs → choices ops (place_of ops cs) ≡ cs
choices_back ops cs h = let z : 0 * layout_count ops + place_of ops cs ≡ place_of ops cs = omega arith in (kept ops cs 0 (place_of ops cs) h z).same
