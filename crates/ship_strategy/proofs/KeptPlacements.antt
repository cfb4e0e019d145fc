-- How the records that an operator emits are placed: a placement that the operator passes on holds for them.
use Rattle.std.proofs.Common.{◌≡◌, ◌<◌, ◌+◌, ◌||◌, not, inl, inr, ℕ, Bool, true, false, cond, Some, None, List, [], ◌∷◌, length, refl, sym, ap, subst, ◌∙◌}
use Rattle.std.specs.List.{AllByRecursion, list_any}
use Rattle.std.proofs.lemmas.Bool.{both_ways, or_parts}
use Rattle.pact_bag.specs.Groups.{do_match}
use Rattle.pact_bag.proofs.KeyLists.{Key}
use Rattle.pact_record.specs.declared.values.Value.{Value}
use Rattle.pact_record.specs.Hash.{target}
use Rattle.pact_record.specs.Record.{at_field, key_of, joined_record, joined_value}
use Rattle.pact_record.proofs.JoinedRecords.{at_field-joined_record, joined_value-null}
use Rattle.pact_record.proofs.Lists.{AllByRecursion-both, AllByRecursion-cond, AllByRecursion-flat_map, AllByRecursion-get_or, AllByRecursion-weaker}
use Rattle.tac_syntax.specs.declared.contexts.Side.{Side}
use Rattle.tac_syntax.specs.declared.contexts.Side.TheVariants.{Left as on_left, Right as on_right}
use Rattle.tac_syntax.specs.declared.declarations.OpKind.{OpKind}
use Rattle.tac_syntax.specs.declared.declarations.OpKind.TheVariants.{Source, Map, Reduce, Match, Cross, CoGroup}
use Rattle.tac_syntax.specs.Call.{CallInput, of_record, of_pair, of_group, of_groups}
use Rattle.tac_syntax.specs.Contexts.{FieldSet, Has, Ports}
use Rattle.tac_syntax.specs.Forms.{AreAnchoredAt, AreApart, HasForm, HaveKey, IsLawful, IsWithin, anchors, left_records, right_records}
use Rattle.tac_flow.specs.Known.{either}
use Rattle.pact_operators.specs.Allowed.{Bag, Gives, GivesBoth}
use Rattle.pact_bag.specs.Pairs.{crossed, matched, has_null, unless_null}
use Rattle.pact_operators.specs.PlanOps.{PlanOps}
use Rattle.pact_operators.specs.SoundOps.{called, function_kind}
use Rattle.pact_operators.proofs.EachOfGroups.{cogrouped_each, crossed_each, grouped_each}
use Rattle.pact_operators.proofs.WithinFields.{agree_self}
use Rattle.ship_strategy.specs.Facts.{NodeFacts}
use Rattle.ship_strategy.specs.Ships.{IsLegalBoth, Placement, first_of_both, passed, placement_anchored, placement_both, placement_of_keys, placement_over, placement_paired, where_so}
use Rattle.ship_strategy.proofs.Arrivals.{LieBy}

-- the operator is anchored on the side: a CoGroup if this is known, and every other operator always
abbrev pub IsAnchored : OpKind → NodeFacts → Side → Type 0
IsAnchored Source x side = ⊥
IsAnchored CoGroup x on_left = x.anchor_left ≡ true
IsAnchored CoGroup x on_right = x.anchor_right ≡ true
IsAnchored kind x side = Unit {0}

-- a context with the fields of an operator's inputs and its own keys
abbrev pub ports_at : PlanOps → ℕ → (in_left in_right : ℕ → Type 0) → Ports
ports_at o n in_left in_right = record { left = in_left; right = in_right; left_keys = o.left_keys n; right_keys = o.right_keys n }

-- calls of the operator have the known form
abbrev pub HasKnownForm : ℕ → PlanOps → ℕ → Ports → OpKind → NodeFacts → Type 0
HasKnownForm fields o n c kind x = (side : Side) → IsAnchored kind x side → (reads : FieldSet) × HasForm (function_kind kind) fields c reads x.writes side (called o n)

-- ---- placements that are passed on

passed_lie : (W w : ℕ) (bad : FieldSet) (edge : Placement) (out : Bag)
    → ((keys : List ℕ) → edge ≡ Some keys → list_any bad keys ≡ false → LieBy W (Some keys) w out) → LieBy W (passed bad edge) w out
passed_lie W w bad None out h = tt
passed_lie W w bad (Some keys) out h = by (list_any bad keys) refl
  where
    by : (b : Bool) → list_any bad keys ≡ b → LieBy W (cond b None (Some keys)) w out
    by true e = tt
    by false e = h keys refl e

first_lie : (W w : ℕ) (p q : Placement) (out : Bag) → LieBy W p w out → LieBy W q w out → LieBy W (first_of_both p q) w out
first_lie W w None q out h g = g
first_lie W w (Some keys) q out h g = h

-- records that are equal outside some fields have the same key values, if none of these is a key
same_key : (bad : FieldSet) (keys : List ℕ) (a q : List Value) → ((k : ℕ) → bad k ≡ false → at_field q k ≡ at_field a k) → list_any bad keys ≡ false → key_of keys q ≡ key_of keys a
same_key bad [] a q h e = refl
same_key bad (k ∷ keys) a q h e =
    let parts = or_parts (bad k) (list_any bad keys) e in
    λ i. h k parts.0 i ∷ same_key bad keys a q h parts.1 i

-- ---- outputs by their anchors

-- any record that is equal to this one outside the written fields has the property
abbrev KeptAt : FieldSet → (List Value → Type 0) → List Value → Type 0
KeptAt writes Q a = (q : List Value) → ((k : ℕ) → writes k ≡ false → at_field q k ≡ at_field a k) → Q q

anchored_each : (Q : List Value → Type 0) (writes : FieldSet) (xs ys : Bag) (places : List ℕ) (outs others : Bag) → AreAnchoredAt writes xs ys places outs others → AllByRecursion (KeptAt writes Q) xs → AllByRecursion Q outs
anchored_each Q writes xs ys [] [] [] h f = tt
anchored_each Q writes xs ys (p ∷ places) (r ∷ rs) (q ∷ qs) h f =
    (AllByRecursion-get_or (KeptAt writes Q) xs p [] h.0 f r h.1.kept, anchored_each Q writes xs ys places rs qs h.2 f)
anchored_each Q writes xs ys places outs others h f = absurd h

-- ---- the operator of a number, at a worker

module _ (fields : ℕ) (o : PlanOps) (n W w : ℕ) (in_left in_right : ℕ → Type 0) (apart : AreApart in_left in_right) (x : NodeFacts) where
  abbrev C : Ports
  C = ports_at o n in_left in_right

  abbrev LieHere : List ℕ → List Value → Type 0
  LieHere keys r = target W (key_of keys r) ≡ w

  -- the output of a call is where its anchors are
  called_lie : (kind : OpKind) (side : Side) (keys : List ℕ) (input : CallInput) → HasKnownForm fields o n C kind x → IsAnchored kind x side → IsLawful (function_kind kind) fields C input
      → AllByRecursion (KeptAt x.writes (LieHere keys)) (anchors side input) → LieBy W (Some keys) w (called o n input)
  called_lie kind side keys input form anchor lawful at =
      let f = form side anchor in
      let r = f.1 input input lawful lawful (record { left = agree_self f.0 (left_records input); right = agree_self f.0 (right_records input) }) in
      anchored_each (LieHere keys) x.writes (anchors side input) (anchors side input) r.0 (called o n input) (called o n input) r.1 at

  -- records stay at their worker if none of the placement's fields is written
  kept_place : (keys : List ℕ) → list_any x.writes keys ≡ false → (rows : Bag) → LieBy W (Some keys) w rows → AllByRecursion (KeptAt x.writes (LieHere keys)) rows
  kept_place keys none rows h = AllByRecursion-weaker (LieHere keys) (KeptAt x.writes (LieHere keys)) rows (λ a at q e. ap (target W) (same_key x.writes keys a q e none) ∙ at) h

  -- a record of a side within its fields, and at its worker
  abbrev IsLeft : List ℕ → List Value → Type 0
  IsLeft keys r = IsWithin fields in_left r × LieHere keys r

  abbrev IsRight : List ℕ → List Value → Type 0
  IsRight keys r = IsWithin fields in_right r × LieHere keys r

  lefts_within : (keys : List ℕ) (rows : Bag) → AllByRecursion (IsLeft keys) rows → AllByRecursion (IsWithin fields in_left) rows
  lefts_within keys rows h = AllByRecursion-weaker (IsLeft keys) (IsWithin fields in_left) rows (λ r p. p.0) h

  lefts_lie : (keys : List ℕ) (rows : Bag) → AllByRecursion (IsLeft keys) rows → AllByRecursion (LieHere keys) rows
  lefts_lie keys rows h = AllByRecursion-weaker (IsLeft keys) (LieHere keys) rows (λ r p. p.1) h

  rights_within : (keys : List ℕ) (rows : Bag) → AllByRecursion (IsRight keys) rows → AllByRecursion (IsWithin fields in_right) rows
  rights_within keys rows h = AllByRecursion-weaker (IsRight keys) (IsWithin fields in_right) rows (λ r p. p.0) h

  rights_lie : (keys : List ℕ) (rows : Bag) → AllByRecursion (IsRight keys) rows → AllByRecursion (LieHere keys) rows
  rights_lie keys rows h = AllByRecursion-weaker (IsRight keys) (LieHere keys) rows (λ r p. p.1) h

  -- ---- one input

  module _ (rows out : Bag) (fit : AllByRecursion (IsWithin fields in_left) rows) where
    rows_at : (edge : Placement) (keys : List ℕ) → edge ≡ Some keys → LieBy W edge w rows → AllByRecursion (IsLeft keys) rows
    rows_at edge keys is lie = AllByRecursion-both (IsWithin fields in_left) (LieHere keys) rows fit (subst (λ (p : Placement). LieBy W p w rows) is lie)

    pub over_lie : (kind : OpKind) → HasKnownForm fields o n C kind x → (edge : Placement) → LieBy W edge w rows → Gives o kind n rows out → LieBy W (placement_over kind x.writes edge) w out
    over_lie Map form edge lie given = passed_lie W w x.writes edge out (λ keys is none.
        subst (LieBy W (Some keys) w) (sym given)
        (AllByRecursion-flat_map (IsLeft keys) (LieHere keys) (o.of_record n) rows (rows_at edge keys is lie)
        (λ r h. called_lie Map on_left keys (of_record r) form tt (record { apart = apart; called = tt; some = tt; keyed = tt; left = (h.0, tt); right = tt }) (kept_place keys none (r ∷ []) (h.1, tt)))))
    over_lie Reduce form edge lie given = passed_lie W w x.writes edge out (λ keys is none.
        grouped_each (IsLeft keys) (LieHere keys) (o.left_keys n) (o.of_group n) rows (rows_at edge keys is lie)
        (λ k group h keyed some. called_lie Reduce on_left keys (of_group k group) form tt
        (record { apart = apart; called = tt; some = some; keyed = keyed; left = lefts_within keys group h; right = tt }) (kept_place keys none group (lefts_lie keys group h)))
        out given)
    over_lie kind form edge lie given = tt

  -- ---- two inputs

  module _ (ls rs out : Bag) (fit_left : AllByRecursion (IsWithin fields in_left) ls) (fit_right : AllByRecursion (IsWithin fields in_right) rs) where
    lefts_at : (edge : Placement) (keys : List ℕ) → edge ≡ Some keys → LieBy W edge w ls → AllByRecursion (IsLeft keys) ls
    lefts_at edge keys is lie = AllByRecursion-both (IsWithin fields in_left) (LieHere keys) ls fit_left (subst (λ (p : Placement). LieBy W p w ls) is lie)

    rights_at : (edge : Placement) (keys : List ℕ) → edge ≡ Some keys → LieBy W edge w rs → AllByRecursion (IsRight keys) rs
    rights_at edge keys is lie = AllByRecursion-both (IsWithin fields in_right) (LieHere keys) rs fit_right (subst (λ (p : Placement). LieBy W p w rs) is lie)

    -- ---- a CoGroup

    module _ (form : HasKnownForm fields o n C CoGroup x) (keys others : List ℕ) (at_left : LieBy W (Some keys) w ls) (at_right : LieBy W (Some others) w rs) (given : GivesBoth o CoGroup n ls rs out) where
      lawful_groups : (k : Key) (l r : Bag) → 0 < length l + length r → HaveKey (o.left_keys n) k l → HaveKey (o.right_keys n) k r → AllByRecursion (IsLeft keys) l → AllByRecursion (IsRight others) r
          → IsLawful (function_kind CoGroup) fields C (of_groups k l r)
      lawful_groups k l r some kl kr fl fr =
          record { apart = apart; called = tt; some = some; keyed = (kl, kr); left = lefts_within keys l fl; right = rights_within others r fr }

      groups_left : x.anchor_left ≡ true → list_any x.writes keys ≡ false → LieBy W (Some keys) w out
      groups_left anchor none =
          cogrouped_each (IsLeft keys) (IsRight others) (LieHere keys) (o.left_keys n) (o.right_keys n) (o.of_groups n) ls rs (lefts_at (Some keys) keys refl at_left) (rights_at (Some others) others refl at_right)
          (λ k l r fl fr kl kr some. called_lie CoGroup on_left keys (of_groups k l r) form anchor (lawful_groups k l r some kl kr fl fr) (kept_place keys none l (lefts_lie keys l fl)))
          out given

      groups_right : x.anchor_right ≡ true → list_any x.writes others ≡ false → LieBy W (Some others) w out
      groups_right anchor none =
          cogrouped_each (IsLeft keys) (IsRight others) (LieHere others) (o.left_keys n) (o.right_keys n) (o.of_groups n) ls rs (lefts_at (Some keys) keys refl at_left) (rights_at (Some others) others refl at_right)
          (λ k l r fl fr kl kr some. called_lie CoGroup on_right others (of_groups k l r) form anchor (lawful_groups k l r some kl kr fl fr) (kept_place others none r (rights_lie others r fr)))
          out given

      side_lies : (so : Bool) (ks : List ℕ) → (so ≡ true → list_any x.writes ks ≡ false → LieBy W (Some ks) w out) → LieBy W (passed x.writes (where_so so ks)) w out
      side_lies true ks h = passed_one (list_any x.writes ks) refl
        where
          passed_one : (b : Bool) → list_any x.writes ks ≡ b → LieBy W (cond b None (Some ks)) w out
          passed_one true e = tt
          passed_one false e = h refl e
      side_lies false ks h = tt

      groups_lie : LieBy W (placement_anchored x.writes x.anchor_left x.anchor_right keys others) w out
      groups_lie =
          first_lie W w (passed x.writes (where_so x.anchor_left keys)) (passed x.writes (where_so x.anchor_right others)) out
          (side_lies x.anchor_left keys groups_left) (side_lies x.anchor_right others groups_right)

    -- ---- pairs

    -- if a field isn't one of the other side, a join has this side's value
    from_left : (l r : List Value) → IsWithin fields in_left l → IsWithin fields in_right r → (k : ℕ) → (in_right k → ⊥) → at_field (joined_record l r) k ≡ at_field l k
    from_left l r fl fr k none = at_field-joined_record l r k (fl.width ∙ sym fr.width) ∙ ap (joined_value (at_field l k)) (fr.null k none) ∙ joined_value-null (at_field l k)

    from_right : (l r : List Value) → IsWithin fields in_left l → IsWithin fields in_right r → (k : ℕ) → (in_left k → ⊥) → at_field (joined_record l r) k ≡ at_field r k
    from_right l r fl fr k none = at_field-joined_record l r k (fl.width ∙ sym fr.width) ∙ ap (λ (z : Value). joined_value z (at_field r k)) (fl.null k none)

    module _ (known_left : (k : ℕ) → in_left k → Has x.left k) (known_right : (k : ℕ) → in_right k → Has x.right k) where
      -- an operator of pairs
      pub record IsOfPairs (kind : OpKind) (f : List Value → List Value → Bag) : Type 1 where
        pub lawful : (l r : List Value) → IsWithin fields in_left l → IsWithin fields in_right r → IsLawful (function_kind kind) fields C (of_pair l r)
        pub anchor : IsAnchored kind x on_left
        pub form : HasKnownForm fields o n C kind x
        pub given : out ≡ crossed f ls rs
        -- what is emitted for a pair is what a call emits, or nothing
        pub within : (Q : List Value → Type 0) (l r : List Value) → AllByRecursion Q (o.of_pair n l r) → AllByRecursion Q (f l r)

      module _ (kind : OpKind) (f : List Value → List Value → Bag) (pairs : IsOfPairs kind f) where
        pair_left : (keys : List ℕ) → list_any (either x.writes x.right) keys ≡ false → (l r : List Value) → IsLeft keys l → IsWithin fields in_right r → LieBy W (Some keys) w (o.of_pair n l r)
        pair_left keys none l r fl fr =
            called_lie kind on_left keys (of_pair l r) pairs.form pairs.anchor (pairs.lawful l r fl.0 fr) (
              (λ q kept. ap (target W) (same_key (either x.writes x.right) keys l q
                  (λ k b. let c = or_parts (x.writes k) (x.right k) b in kept k c.0 ∙ from_left l r fl.0 fr k (λ has. both_ways (x.right k) c.1 (known_right k has))) none) ∙ fl.1),
              tt,
            )

        pair_right : (keys : List ℕ) → list_any (either x.writes x.left) keys ≡ false → (l r : List Value) → IsWithin fields in_left l → IsRight keys r → LieBy W (Some keys) w (o.of_pair n l r)
        pair_right keys none l r fl fr =
            called_lie kind on_left keys (of_pair l r) pairs.form pairs.anchor (pairs.lawful l r fl fr.0) (
              (λ q kept. ap (target W) (same_key (either x.writes x.left) keys r q
                  (λ k b. let c = or_parts (x.writes k) (x.left k) b in kept k c.0 ∙ from_right l r fl fr.0 k (λ has. both_ways (x.left k) c.1 (known_left k has))) none) ∙ fr.1),
              tt,
            )

        paired_left : (edge : Placement) → LieBy W edge w ls → LieBy W (passed (either x.writes x.right) edge) w out
        paired_left edge lie = passed_lie W w (either x.writes x.right) edge out (λ keys is none.
            subst (LieBy W (Some keys) w) (sym pairs.given)
            (crossed_each (IsLeft keys) (IsWithin fields in_right) (LieHere keys) f ls rs (lefts_at edge keys is lie) fit_right
            (λ l r fl fr. pairs.within (LieHere keys) l r (pair_left keys none l r fl fr))))

        paired_right : (edge : Placement) → LieBy W edge w rs → LieBy W (passed (either x.writes x.left) edge) w out
        paired_right edge lie = passed_lie W w (either x.writes x.left) edge out (λ keys is none.
            subst (LieBy W (Some keys) w) (sym pairs.given)
            (crossed_each (IsWithin fields in_left) (IsRight keys) (LieHere keys) f ls rs fit_left (rights_at edge keys is lie)
            (λ l r fl fr. pairs.within (LieHere keys) l r (pair_right keys none l r fl fr))))

        pairs_lie : (la ra : Bool) (left_edge right_edge by_key : Placement) → LieBy W left_edge w ls → LieBy W right_edge w rs → (la ≡ false → ra ≡ false → LieBy W by_key w out)
            → LieBy W (placement_paired x.writes x.left x.right la ra left_edge right_edge by_key) w out
        pairs_lie true ra left_edge right_edge by_key at_left at_right key = paired_right right_edge at_right
        pairs_lie false true left_edge right_edge by_key at_left at_right key = paired_left left_edge at_left
        pairs_lie false false left_edge right_edge by_key at_left at_right key = key refl refl

      pub both_lie : (kind : OpKind) → HasKnownForm fields o n C kind x → (la ra : Bool) (left_edge right_edge : Placement) → IsLegalBoth kind x.left_keys x.right_keys la ra left_edge right_edge
          → LieBy W left_edge w ls → LieBy W right_edge w rs → GivesBoth o kind n ls rs out → LieBy W (placement_both kind x la ra left_edge right_edge) w out
      both_lie Source form la ra left_edge right_edge legal at_left at_right given = absurd legal
      both_lie Map form la ra left_edge right_edge legal at_left at_right given = absurd legal
      both_lie Reduce form la ra left_edge right_edge legal at_left at_right given = absurd legal
      both_lie Match form la ra left_edge right_edge legal at_left at_right given =
          let f = matched o.nulls (o.of_pair n) (o.left_keys n) (o.right_keys n) in
          let by_key = placement_of_keys x.writes x.left x.right x.left_keys x.right_keys in
          let pairs : IsOfPairs Match f = record {
            lawful = λ l r fl fr. record { apart = apart; called = tt; some = tt; keyed = tt; left = (fl, tt); right = (fr, tt) };
            anchor = tt;
            form = form;
            given = given;
            within = λ Q l r h. AllByRecursion-cond Q (do_match (o.left_keys n) (o.right_keys n) l r) (unless_null o.nulls (o.of_pair n) (o.left_keys n) l r) []
                (AllByRecursion-cond Q (o.nulls || not (has_null (key_of (o.left_keys n) l))) (o.of_pair n l r) [] h tt) tt;
          } in
          pairs_lie Match f pairs la ra left_edge right_edge by_key at_left at_right
          (λ no_left no_right. elim legal as (λ _. LieBy W by_key w out) [
            | inl key ↦
                first_lie W w (passed (either x.writes x.right) (Some x.left_keys)) (passed (either x.writes x.left) (Some x.right_keys)) out
                (paired_left Match f pairs (Some x.left_keys) (subst (λ (p : Placement). LieBy W p w ls) key.0 at_left))
                (paired_right Match f pairs (Some x.right_keys) (subst (λ (p : Placement). LieBy W p w rs) key.1 at_right))
            | inr all ↦ absurd (elim all as (λ _. ⊥) [ inl a ↦ both_ways la no_left a.0 | inr b ↦ both_ways ra no_right b.1 ])
          ])
      both_lie Cross form la ra left_edge right_edge legal at_left at_right given =
          let pairs : IsOfPairs Cross (o.of_pair n) = record {
            lawful = λ l r fl fr. record { apart = apart; called = tt; some = tt; keyed = tt; left = (fl, tt); right = (fr, tt) };
            anchor = tt;
            form = form;
            given = given;
            within = λ Q l r h. h;
          } in
          pairs_lie Cross (o.of_pair n) pairs la ra left_edge right_edge None at_left at_right (λ no_left no_right. tt)
      both_lie CoGroup form la ra left_edge right_edge legal at_left at_right given =
          groups_lie form x.left_keys x.right_keys (subst (λ (p : Placement). LieBy W p w ls) legal.0 at_left) (subst (λ (p : Placement). LieBy W p w rs) legal.1 at_right) given
