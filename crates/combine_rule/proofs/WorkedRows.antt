-- The functions `sum` and `count` of the worked rows.
use Rattle.std.proofs.Common.{◌≡◌, ◌==◌, ◌||◌, ℕ, pos, Bool, true, false, List, [], ◌∷◌, Some, refl, arith}
use Rattle.std.proofs.lemmas.Bool.Decides.{Decides-int_eq}
use Rattle.std.proofs.lemmas.Int.{int_wrap_fits}
use Rattle.std.specs.Int.{w64, int_wrap}
use Rattle.pact_record.specs.declared.operations.Op2.TheVariants.{AddW}
use Rattle.tac_syntax.specs.declared.statements.Rec.TheVariants.{Loop}
use Rattle.tac_syntax.specs.declared.statements.LoopList.TheVariants.{Group}
use Rattle.tac_syntax.specs.Code.{load_int, get_field, get_key, apply_two, new_record, copy_record, set_field, emit_record, Code, stop, plain, each}
use Rattle.order_free.specs.declared.accumulators.Accumulation.TheVariants.{Sum}
use Rattle.combine_rule.specs.Pieces.{front_of, loop_of, has_one_loop}
use Rattle.combine_rule.specs.declared.slots.Slot.{Slot}
use Rattle.combine_rule.specs.Slots.{slots_of, spare_register}
use Rattle.combine_rule.specs.Halves.{sender_of, merger_of}
use Rattle.combine_rule.specs.Combinable.{is_number_behind}

-- v0 = int 0; each x1 of group; v1 = get x1 1; v0 = addw v0 v1; end; r0 = new; v2 = key 0; set r0 0 v2; set r0 2 v0;
-- emit r0
sum : Code
sum = plain (load_int 0 (pos 0)) (each 1 Group (plain (get_field 1 (Loop 1) 1) (plain (apply_two 0 AddW 0 1) stop))
    (plain (new_record 0) (plain (get_key 2 0) (plain (set_field 0 0 2) (plain (set_field 0 2 0) (plain (emit_record 0) stop))))))

columns : ℕ → Bool
columns k = (k == 0) || (k == 1)

slots : List Slot
slots = record { register = 0; by = Sum; field = 1 } ∷ []

slots_are : slots_of (loop_of sum) 4 (0 ∷ []) columns ≡ slots
unfolding sum columns slots
slots_are = refl

spare : spare_register sum ≡ Some 3
unfolding sum
spare = refl

starts : is_number_behind (front_of sum) 0 false ≡ true
unfolding sum
starts = (Decides-int_eq (int_wrap w64 (pos 0)) (pos 0)).1 (int_wrap_fits w64 (pos 0) (omega arith))

sender : sender_of sum 3 (0 ∷ []) slots ≡ plain (load_int 0 (pos 0)) (plain (load_int 0 (pos 0)) (each 1 Group (plain (get_field 1 (Loop 1) 1) (plain (apply_two 0 AddW 0 1) stop))
    (plain (new_record 0) (plain (get_key 3 0) (plain (set_field 0 0 3) (plain (set_field 0 1 0) (plain (emit_record 0) stop)))))))
unfolding sum slots
sender = refl

merger : merger_of sum 3 slots ≡ plain (load_int 0 (pos 0)) (each 1 Group (plain (get_field 3 (Loop 1) 1) (plain (apply_two 0 AddW 0 3) stop))
    (plain (new_record 0) (plain (get_key 2 0) (plain (set_field 0 0 2) (plain (set_field 0 2 0) (plain (emit_record 0) stop))))))
unfolding sum slots
merger = refl

-- `each` occurs twice
count : Code
count = plain (load_int 0 (pos 0)) (plain (load_int 1 (pos 1)) (each 1 Group (plain (apply_two 0 AddW 0 1) stop)
    (each 1 Group (plain (copy_record 0 (Loop 1)) (plain (set_field 0 3 0) (plain (emit_record 0) stop))) stop)))

not_count : has_one_loop count ≡ false
unfolding count
not_count = refl
