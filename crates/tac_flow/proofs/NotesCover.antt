-- The notes cover each record that is emitted.
use Rattle.std.proofs.Common.{◌≡◌, ◌<◌, ◌+◌, ℕ, true, false, Option, Some, None, List, [], ◌∷◌, ◌++◌, length, get_or, refl, sym, ap, subst, ◌∙◌}
use Rattle.std.specs.List.{AllByRecursion, AllZip}
use Rattle.std.proofs.lemmas.Bool.{or_left, or_right, and_left, and_right, and_parts, and_from, both_ways, false_from_ne_true}
use Rattle.std.proofs.lemmas.List.{length-append}
use Rattle.std.proofs.lemmas.List.Elements.{AllZip-push}
use Rattle.pact_record.specs.declared.values.Value.{Value}
use Rattle.tac_syntax.specs.Call.{CallInput}
use Rattle.tac_flow.specs.Known.{FieldSet, Side, left, side_of, Held}
use Rattle.tac_flow.specs.Steps.{Scope}
use Rattle.tac_flow.specs.Walks.{Note, decides, emits}
use Rattle.tac_flow.specs.Results.{writes_in, common_in, depends_in, control_in, anchored_in, is_on}
use Rattle.pact_record.specs.Record.{Agree}
use Rattle.tac_syntax.specs.Forms.{AreAnchored, AreAnchoredAt, HaveAnchors, anchors}
use Rattle.tac_flow.proofs.TwoCalls.{Sub, HaveBase, AreCalls}
use Rattle.tac_flow.proofs.LooserBases.{same_side-true}
use Rattle.tac_flow.proofs.RecordsOfTwo.{agree_over}
use Rattle.tac_flow.proofs.SamePaths.{IsTold}
use Rattle.tac_flow.proofs.BasesOnTheLeft.{NoteOnLeft}

pub record IsCoveredHeld (R W : FieldSet) (side : Side) (h : Held) : Type 0 where
  pub depends : Sub h.depends R
  pub changed : Sub h.changed W
  pub others : (k : ℕ) → W k ≡ true → h.changed k ≡ false → R k ≡ true
  pub on : is_on side (side_of h.base) ≡ true

abbrev pub IsCovered : FieldSet → FieldSet → Side → Note → Type 0
IsCovered R W side (decides d) = Sub d R
IsCovered R W side (emits h) = IsCoveredHeld R W side h

pub are_covered : (fields : ℕ) (R W : FieldSet) (side : Side) (ns : List Note) → Sub (depends_in ns) R → Sub (control_in ns) R → Sub (writes_in ns) W → ((k : ℕ) → W k ≡ true → common_in fields ns k ≡ false → R k ≡ true)
    → anchored_in side ns ≡ true → AllByRecursion (IsCovered R W side) ns
are_covered fields R W side [] d n w c a = tt
are_covered fields R W side (decides e ∷ ns) d n w c a =
    (λ k m. n k (or_left (e k) (control_in ns k) m), are_covered fields R W side ns d (λ k m. n k (or_right (e k) (control_in ns k) m)) w c a)
are_covered fields R W side (emits h ∷ ns) d n w c a =
    let on = and_parts (is_on side (side_of h.base)) (anchored_in side ns) a in (
      record {
        depends = λ k m. d k (or_left (h.depends k) (depends_in ns k) m);
        changed = λ k m. w k (or_left (h.changed k) (writes_in ns k) m);
        others = λ k m out. c k m (and_left (h.changed k) (common_in fields ns k) out);
        on = on.0;
      },
      are_covered fields R W side ns (λ k m. d k (or_right (h.depends k) (depends_in ns k) m)) n (λ k m. w k (or_right (h.changed k) (writes_in ns k) m))
          (λ k m out. c k m (and_right (h.changed k) (common_in fields ns k) out)) on.1,
    )

-- every base is on the left
pub anchored_left : (ns : List Note) → AllByRecursion NoteOnLeft ns → anchored_in left ns ≡ true
anchored_left [] h = refl
anchored_left (decides d ∷ ns) h = anchored_left ns h.1
anchored_left (emits g ∷ ns) h = and_from (is_on left (side_of g.base)) (anchored_in left ns) (ap (is_on left) h.0) (anchored_left ns h.1)

-- an output of both calls begins as the anchor at a place
abbrev IsAnchoredAt : FieldSet → List (List Value) → List (List Value) → ℕ → List Value → List Value → Type 0
IsAnchoredAt W xs ys p r q = (p < length xs) × AreAnchored W (get_or xs p []) (get_or ys p []) r q

push_anchored : (W : FieldSet) (xs ys : List (List Value)) (ps : List ℕ) (rs qs : List (List Value)) (p : ℕ) (r q : List Value) → AreAnchoredAt W xs ys ps rs qs → IsAnchoredAt W xs ys p r q
    → AreAnchoredAt W xs ys (ps ++ p ∷ []) (rs ++ r ∷ []) (qs ++ q ∷ [])
push_anchored W xs ys [] [] [] p r q h g = (g.0, g.1, tt)
push_anchored W xs ys (n ∷ ps) (a ∷ rs) (b ∷ qs) p r q h g = (h.0, h.1, push_anchored W xs ys ps rs qs p r q h.2 g)
push_anchored W xs ys ps rs qs p r q h g = absurd h

module _ (R W : FieldSet) (c : Scope) (x y : CallInput) (calls : AreCalls R c x y) (side : Side) where
  not_changed : (h : Held) (k : ℕ) → IsCoveredHeld R W side h → W k ≡ false → h.changed k ≡ false
  not_changed h k g out = false_from_ne_true (h.changed k) (λ e. both_ways (W k) out (g.changed k e))

  place_of : (o : Option Side) (h : Held) (depth : ℕ) (rows others : List (List Value)) (r q : List Value) → IsCoveredHeld R W side h → is_on side o ≡ true
      → HaveBase x y depth rows others o h.base h.changed r q → Agree W r q → (p : ℕ) × IsAnchoredAt W (anchors side x) (anchors side y) p r q
  place_of (Some s) h depth rows others r q g on b same =
      let e : s ≡ side = sym (same_side-true side s on) in
      subst (λ (u : Side). (p : ℕ) × IsAnchoredAt W (anchors u x) (anchors u y) p r q) e (
        b.place,
        (b.there, record { written = same; kept = λ k out. b.own.own k (not_changed h k g out); other_kept = λ k out. b.other.own k (not_changed h k g out) }),
      )
  place_of None h depth rows others r q g on b same = cc

  pub told_anchored : IsTold R c x y (IsCovered R W side) (HaveAnchors W side x y)
  told_anchored = record {
    decided = λ d g. g;
    emitted = λ h depth rows others r q rs qs g s so_far.
        let p = place_of (side_of h.base) h depth rows others r q g g.on s.base (agree_over R c x y calls depth rows others h r q W g.depends g.others s) in
        (so_far.0 ++ p.0 ∷ [], push_anchored W (anchors side x) (anchors side y) so_far.0 rs qs p.0 r q so_far.1 p.1);
  }

-- if both inputs agree on all fields, both outputs do
pub told_alone : (c : Scope) (x y : CallInput) (W : FieldSet) → AreCalls (λ k. true) c x y → IsTold (λ k. true) c x y (λ n. Unit {0}) (AllZip (Agree W))
told_alone c x y W calls = record {
  decided = λ d g k m. refl;
  emitted = λ h depth rows others r q rs qs g s so_far.
      AllZip-push (Agree W) rs qs r q so_far (agree_over (λ i. true) c x y calls depth rows others h r q W (λ i n. refl) (λ k m p. refl) s);
}

abbrev pub IsDecided : FieldSet → Note → Type 0
IsDecided R (decides d) = Sub d R
IsDecided R (emits h) = Unit {0}

pub are_decided : (R : FieldSet) (ns : List Note) → Sub (control_in ns) R → AllByRecursion (IsDecided R) ns
are_decided R [] h = tt
are_decided R (decides d ∷ ns) h = (λ k m. h k (or_left (d k) (control_in ns k) m), are_decided R ns (λ k m. h k (or_right (d k) (control_in ns k) m)))
are_decided R (emits g ∷ ns) h = (tt, are_decided R ns h)

-- if all that decides branches is read, there are equally many outputs
pub told_count : (R : FieldSet) (c : Scope) (x y : CallInput) → IsTold R c x y (λ n. IsDecided R n) (λ rs qs. length rs ≡ length qs)
told_count R c x y = record {
  decided = λ d g. g;
  emitted = λ h depth rows others r q rs qs g s so_far. length-append rs (r ∷ []) ∙ ap (λ (n : ℕ). n + 1) so_far ∙ sym (length-append qs (q ∷ []));
}
