-- How instances and notes that a run has left are stored in the logic.
use Rattle.std.specs.Prelude.{List, refl}
use Rattle.std.specs.Coded.{Coded, code_by, coded×, coded_list}
use Rattle.flow_instance.specs.InstanceCode.{coded_instance}
use Rattle.flow_instance.specs.Instances.{Instance}
use Rattle.flow_instance.specs.contracts.notes.Note.{the_row as note_row}
use Rattle.flow_instance.specs.contracts.notes.PipeId.{the_row as pipe_row}
use Rattle.flow_instance.specs.declared.notes.Note.{Note}
use Rattle.flow_instance.specs.declared.notes.PipeId.{PipeId}
use Rattle.flow_core.specs.Left.{LeftOn}

-- the instances of one source or operator
abbrev pub coded_instances : Coded (List Instance)
coded_instances = coded_list coded_instance

-- the instances of all sources and operators
abbrev pub coded_all : Coded (List (List Instance))
coded_all = coded_list coded_instances

-- the notes on a pipe
abbrev pub coded_left : Coded LeftOn
coded_left = code_by (PipeId × List Note) (coded× pipe_row.coded (coded_list note_row.coded)) (λ l. (l.pipe, l.notes)) (λ q. record { pipe = q.0; notes = q.1 }) (λ _. refl)

-- the notes on all pipes
abbrev pub coded_lists : Coded (List LeftOn)
coded_lists = coded_list coded_left
