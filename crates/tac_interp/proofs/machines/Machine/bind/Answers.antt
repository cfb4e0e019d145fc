use Rattle.std.proofs.Common.{◌-◌, ◌++◌, ◌∷◌, [], List, map, ap, sym, ◌∙◌, subst, Bor}
use Rattle.pact_record.specs.declared.values.Value.{Value}
use Rattle.tac_syntax.specs.Call.{Store}
use Rattle.tac_syntax.specs.Call as call
use Rattle.pact_record.specs.Widths.{AreWide}
use Rattle.tac_interp.specs.Machine.{store_of}
use Rattle.tac_interp.proofs.Loops.{map_now-bound, AreWide-bound}
use Rattle.tac_interp.proofs.machines.Machine.bind.Goals as goal

pub invariant_of-self-2 : goal.invariant_of-self-2
invariant_of-self-2 c =
    let h = c.self.invariant.0 in
    let before = c.self.inside.loops.items in
    let e = map_now-bound before c.push.new.self.items c.args.row (c.args.name - 1) (c.in_ok-push.ensures.items ∙ ap (λ (l : List (Bor (List Value))). l ++ c.args.row ∷ []) c.truncate.ensures.items) in
    let w = AreWide-bound c.self.inside.records.fields (c.args.name - 1) (map (λ r. r.now) before) c.args.row.now h.loop_widths (c.requires.width ∙ sym (ap (λ (s : Store). s.fields) c.self.view_is)) in (
      record {
        fields_fit = h.fields_fit;
        input_width = h.input_width;
        loop_widths = subst (AreWide c.self.inside.records.fields) (sym e) w;
        emitted_widths = h.emitted_widths;
      },
      c.self.invariant.1,
      c.self.invariant.2,
    )

pub returns : goal.returns
returns c =
    let before = c.self.inside.loops.items in
    let e = map_now-bound before c.push.new.self.items c.args.row (c.args.name - 1) (c.in_ok-push.ensures.items ∙ ap (λ (l : List (Bor (List Value))). l ++ c.args.row ∷ []) c.truncate.ensures.items) in
    ap (λ (l : List (List Value)). record (store_of c.self.inside) { loops = l }) e ∙ ap (λ (s : Store). call.bind s c.args.name c.args.row.now) c.self.view_is
