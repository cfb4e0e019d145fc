-- The encoding of an instance in the logic.
use Rattle.std.specs.Prelude.{ℕ, Bool, List, Option, refl}
use Rattle.std.specs.Coded.{Coded, code_by, coded×, coded_bool, coded_list, coded_option, coded_ℕ}
use Rattle.flow_instance.specs.Instances.{Instance, Part}
use Rattle.flow_instance.specs.Spots.{Port}
use Rattle.pact_operators.specs.Allowed.{Bag}
use Rattle.pact_record.specs.contracts.values.Value.{the_row as value_row}
use Rattle.plan_trees.specs.contracts.physicals.Ship.{the_row as ship_row}
use Rattle.plan_trees.specs.declared.physicals.Ship.{Ship}
use Rattle.tac_syntax.specs.Code.{Code}
use Rattle.tac_syntax.specs.Coding.{coded_code}
use Rattle.tac_syntax.specs.contracts.declarations.OpKind.{the_row as kind_row}
use Rattle.tac_syntax.specs.declared.declarations.OpKind.{OpKind}

abbrev coded_bag : Coded Bag
coded_bag = coded_list (coded_list value_row.coded)

abbrev coded_port : Coded Port
coded_port = code_by (ℕ × Ship) (coded× coded_ℕ ship_row.coded) (λ p. (p.edge, p.ship)) (λ q. record { edge = q.0; ship = q.1 }) (λ _. refl)

abbrev coded_part : Coded Part
coded_part =
    code_by (ℕ × (OpKind × (Code × (List ℕ × (List ℕ × (Bool × (ℕ × (ℕ × (ℕ × (ℕ × (List Port × Option Ship)))))))))))
    (coded× coded_ℕ (coded× kind_row.coded (coded× coded_code (coded× (coded_list coded_ℕ) (coded× (coded_list coded_ℕ) (coded× coded_bool (coded× coded_ℕ (coded× coded_ℕ (coded× coded_ℕ (coded× coded_ℕ (coded× (coded_list coded_port) (coded_option ship_row.coded))))))))))))
    (λ p. (p.at, (p.kind, (p.body, (p.left_keys, (p.right_keys, (p.nulls, (p.fields, (p.worker, (p.workers, (p.batch, (p.ports, p.out))))))))))))
    (λ q. record {
      at = q.0;
      kind = q.1.0;
      body = q.1.1.0;
      left_keys = q.1.1.1.0;
      right_keys = q.1.1.1.1.0;
      nulls = q.1.1.1.1.1.0;
      fields = q.1.1.1.1.1.1.0;
      worker = q.1.1.1.1.1.1.1.0;
      workers = q.1.1.1.1.1.1.1.1.0;
      batch = q.1.1.1.1.1.1.1.1.1.0;
      ports = q.1.1.1.1.1.1.1.1.1.1.0;
      out = q.1.1.1.1.1.1.1.1.1.1.1;
    })
    (λ _. refl)

-- the whole instance
abbrev pub coded_instance : Coded Instance
coded_instance =
    code_by (Part × (List Bool × (List Bool × (Bag × (Bag × (List (ℕ × Bag) × (List ℕ × (ℕ × (Bag × (ℕ × Bool))))))))))
    (coded× coded_part (coded× (coded_list coded_bool) (coded× (coded_list coded_bool) (coded× coded_bag (coded× coded_bag (coded× (coded_list (coded× coded_ℕ coded_bag)) (coded× (coded_list coded_ℕ) (coded× coded_ℕ (coded× coded_bag (coded× coded_ℕ coded_bool))))))))))
    (λ i. (i.part, (i.left_ended, (i.right_ended, (i.left_kept, (i.right_kept, (i.waiting, (i.marks, (i.receiver, (i.placed, (i.given, i.finished)))))))))))
    (λ q. record {
      part = q.0;
      left_ended = q.1.0;
      right_ended = q.1.1.0;
      left_kept = q.1.1.1.0;
      right_kept = q.1.1.1.1.0;
      waiting = q.1.1.1.1.1.0;
      marks = q.1.1.1.1.1.1.0;
      receiver = q.1.1.1.1.1.1.1.0;
      placed = q.1.1.1.1.1.1.1.1.0;
      given = q.1.1.1.1.1.1.1.1.1.0;
      finished = q.1.1.1.1.1.1.1.1.1.1;
    })
    (λ _. refl)
