use Rattle.std.proofs.Common.{◌≡◌, ◌&&◌, true, false, get_or, length, refl, ap, sym, ◌∙◌, length-set}
use Rattle.flow_instance.specs.Instances.{port_ended}
use Rattle.plan_trees.specs.Senders.{all_below}
use Rattle.flow_instance.specs.States.{seen}
use Rattle.flow_instance.proofs.EndMarks.{sound_built, sound_flagged}
use Rattle.flow_instance.proofs.OnOkTogether.{on_ok_three}
use Rattle.flow_instance.proofs.states.State.end_left.Goals as goal

pub returns-clause-sound : goal.returns-clause-sound
returns-clause-sound g c = on_ok_three c.seal.result (λ rows keys sealed.
    let old = c.args.self.now in
    let ended = c.end.new.self in
    let long : length ended ≡ old.part.workers = ap length c.end.ensures ∙ length-set old.left_ended c.args.from true ∙ c.requires.sound.left_flags in
    let all : all_below old.part.workers (λ k. get_or ended k true) ≡ true = (λ i. all_below (sym long i) (λ k. get_or ended k true)) ∙ sym c.have_all_ended.ensures ∙ c.if-not-have_all_ended.false in
    sound_built g.L.Local.rows g.L.Local.key_fields g.L.Local.is_sealed old (record old { left_ended = ended; left = c.seal.new.self }) c.requires.sound refl long rows keys sealed
    (sym c.pairs.ensures ∙ c.if-not-pairs.false) all)
    c.seal.ensures.rows c.seal.ensures.keys c.seal.ensures.sealed

pub returns-then-not-pairs-clause-sound : goal.returns-then-not-pairs-clause-sound
returns-then-not-pairs-clause-sound g c =
    let old = c.args.self.now in
    let ended = c.end.new.self in
    let long : length ended ≡ old.part.workers = ap length c.end.ensures ∙ length-set old.left_ended c.args.from true ∙ c.requires.sound.left_flags in
    let pairs = sym c.pairs.ensures ∙ c.if-not-pairs.true in
    sound_flagged g.L.Local.rows g.L.Local.key_fields g.L.Local.is_sealed old ended c.requires.sound long (c.requires.not_sealed ∙ (λ i. sym pairs i && port_ended (seen g.L.Local.rows (record old { left_ended = ended })) 0))

pub returns-then-not-have_all_ended-clause-sound : goal.returns-then-not-have_all_ended-clause-sound
returns-then-not-have_all_ended-clause-sound g c =
    let old = c.args.self.now in
    let ended = c.end.new.self in
    let long : length ended ≡ old.part.workers = ap length c.end.ensures ∙ length-set old.left_ended c.args.from true ∙ c.requires.sound.left_flags in
    let all : all_below old.part.workers (λ k. get_or ended k true) ≡ false = (λ i. all_below (sym long i) (λ k. get_or ended k true)) ∙ sym c.have_all_ended.ensures ∙ c.if-not-have_all_ended.true in
    let pairs = sym c.pairs.ensures ∙ c.if-not-pairs.false in
    sound_flagged g.L.Local.rows g.L.Local.key_fields g.L.Local.is_sealed old ended c.requires.sound long (c.requires.not_sealed ∙ (λ i. sym pairs i && sym all i))
