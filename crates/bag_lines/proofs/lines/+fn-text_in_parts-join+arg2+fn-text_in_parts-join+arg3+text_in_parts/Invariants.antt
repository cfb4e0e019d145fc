use Rattle.bag_lines.proofs.lines.+fn-text_in_parts-join+arg2+fn-text_in_parts-join+arg3+text_in_parts.Given as goal

abbrev pub decreases-join+arg2 : goal.decreases-join+arg2
decreases-join+arg2 g l = l.prefix_parts

abbrev pub decreases-join+arg3 : goal.decreases-join+arg3
decreases-join+arg3 g l = l.rest_parts

abbrev pub decreases-text_in_parts : goal.decreases-text_in_parts
decreases-text_in_parts g l = l.parts
