-- Workers may go to other threads if the records that their instances keep may. The checker proves this automatically
-- for most types, but not for recursive ones, such as a function's body, nor for types that contain them. These proofs
-- belong to the crates of their types; they are here since only this crate moves instances between threads.
use denote.RattleType.{RattleType}
use denote.Param.Send.{IsSend, recorded_send, sendable, view_send}
use denote.Ref.{NamedLft}
use mathlib.Core.Path.{◌≡◌}
use denote.Model.Cut.{rejoined, split_one}
use denote.Model.Local.{Parts, rows}
use denote.Model.Marks.{tied_send}
use denote.Model.Goals.{has_of, send}
use denote.Param.SendFields.{FieldsHave, as_row_send, declared_send, variants_send}
use Rattle.std.proofs.Crossing.{crosses}
use Rattle.local_strategy.specs.declared.locals.Local.{Ghosts}
use Rattle.batch_channel.specs.declared.widths.Width as Width
use Rattle.pact_record.proofs.texts.Text.TheSendSync.{the_send as text_sends}
use Rattle.pact_record.proofs.operations.Op1.TheSendSync.{the_send as op1_sends}
use Rattle.pact_record.proofs.operations.Op2.TheSendSync.{the_send as op2_sends}
use Rattle.pact_record.proofs.keys.Keys.TheSendSync.{the_send as keys_sends}
use Rattle.plan_trees.proofs.physicals.Ship.TheSendSync.{the_send as ship_sends}
use Rattle.flow_instance.proofs.parts.Port.TheSendSync.{the_send as port_sends}
use Rattle.tac_syntax.proofs.statements.Rec.TheSendSync.{the_send as rec_sends}
use Rattle.tac_syntax.proofs.statements.LoopList.TheSendSync.{the_send as list_sends}
use Rattle.pact_bag.proofs.rows.Rows.TheSendSync.{the_send as rows_send}
use Rattle.flow_instance.proofs.addressed_notes.AddressedNote.TheSendSync.{the_send as addressed_send}
use Rattle.plan_trees.proofs.senders.EndedSenders.TheSendSync.{the_send as senders_send}
use Rattle.batch_channel.proofs.ends.PutEnd.TheSendSync.{the_send as put_sends}
use Rattle.batch_channel.proofs.ends.TakeEnd.TheSendSync.{the_send as take_sends}
use Rattle.batch_channel.proofs.pipes.Pipe.TheSendSync.{the_sync as pipe_syncs}
use Rattle.worker_gate.proofs.flags.Flags.TheSendSync.{the_sync as flags_sync}
use Rattle.flow_run.proofs.tables.Table.TheSendSync.{the_send as table_sends}
use Rattle.flow_run.proofs.tables.Tables.TheSendSync.{the_sync as tables_sync}
use Rattle.tac_syntax.specs.declared.statements.Body.TheDeep as Deep
use Rattle.tac_syntax.specs.contracts.statements.Body.TheKnot as Knot
use Rattle.tac_syntax.specs.contracts.statements.Body as Body
use Rattle.tac_syntax.specs.contracts.functions.Function as Function
use Rattle.tac_syntax.specs.contracts.valids.Valid as Valid
use Rattle.tac_syntax.specs.contracts.valids.Valid.TheInside as Inside
use Rattle.flow_instance.specs.contracts.before_start.Unstarted as Unstarted
use Rattle.flow_instance.specs.contracts.parts.Part as Part
use Rattle.flow_instance.specs.contracts.states.State as State
use Rattle.flow_instance.specs.contracts.instances.Instance as Instance
use Rattle.flow_instance.specs.contracts.instances.Instance.TheInside as Inner
use Rattle.batch_channel.specs.contracts.ends.PutEnd as PutEnd
use Rattle.batch_channel.specs.contracts.ends.TakeEnd as TakeEnd
use Rattle.batch_channel.specs.contracts.pipes.Pipe as Pipe
use Rattle.flow_run.specs.contracts.schedules.Job as Job
use Rattle.flow_run.specs.contracts.tables.Table as Table
use Rattle.flow_run.specs.contracts.workers.Worker as Worker

-- ---- bodies

stmt_layer : (h : RattleType) → IsSend h → IsSend (Knot.layer-Stmt h h h h)
stmt_layer h s = variants_send (Knot.type-Stmt h h h h) (search (sendable, crosses, as_row_send, text_sends, op1_sends, op2_sends, rec_sends, list_sends) depth 20 fits 30000)

body_layer : (h : RattleType) → IsSend h → IsSend (Knot.layer-Body h)
body_layer h s = search (sendable, crosses) depth 20

again : (R : RattleType) (D : Type 0) (split : D → R.Denot) (join : R.Denot → D) (e : (d : D) → join (split d) ≡ d) → IsSend R → IsSend (rejoined R D split join e)
again R D split join e s = recorded_send R D split (split_one R D split join e) s

view : (p : Parts Knot.frame) → IsSend (rows Knot.frame p Deep.member-Body) → IsSend (Knot.view-Body p)
view p s =
    let h = rows Knot.frame p Deep.member-Body in
    let stmts = again (Knot.layer-Stmt h h h h) _ Deep.split-Stmt Deep.join-Stmt Deep.joins-Stmt (stmt_layer h s) in
    view_send (Knot.at-Body p) _ _ _ _ (again (Knot.layer-Body (Knot.at-Stmt p)) _ Deep.split-Body Deep.join-Body Deep.joins-Body (body_layer (Knot.at-Stmt p) stmts))

step : (p : Parts Knot.frame) → ((j : Deep.the_members) → IsSend (rows Knot.frame p j)) → (i : Deep.the_members) → IsSend (rows Knot.frame (Knot.step p) i)
step p s Deep.member-Body = has_of Knot.frame send (Knot.step p) Deep.member-Body (λ d vs. (view p (s Deep.member-Body)).owned d vs)

pub body_send : IsSend Body.the_row
body_send = tied_send Knot.frame Knot.step Knot.sizes step Deep.member-Body

-- ---- types that contain bodies

function_send : IsSend Function.the_row
function_send = search (sendable, crosses, body_send) depth 20

valid_send : IsSend Valid.the_row
valid_send = view_send Inside.the_row _ _ _ _ (declared_send Inside.the_type (search (sendable, crosses, as_row_send, function_send) depth 20 fits 30000))

part_send : IsSend Part.the_row
part_send = search (sendable, crosses, ship_sends, keys_sends, port_sends, valid_send) depth 20

pub unstarted_send : IsSend Unstarted.the_row
unstarted_send = declared_send Unstarted.the_type (
  search (sendable, crosses, as_row_send, part_send) depth 20,
  (
    search (sendable, crosses, as_row_send, rows_send) depth 20,
    tt,
  ),
)

module _ (L : RattleType) where
  state_fields : IsSend L → FieldsHave IsSend (State.the_type L).parts
  state_fields l = (
    search (sendable, crosses, as_row_send) depth 20,
    (
      search (sendable, crosses, as_row_send, part_send) depth 20,
      (
        search (sendable, crosses, as_row_send, senders_send) depth 20,
        (
          search (sendable, crosses, as_row_send, senders_send) depth 20,
          (
            search (sendable, crosses, as_row_send, l) depth 20,
            (
              search (sendable, crosses, as_row_send, l) depth 20,
              (
                search (sendable, crosses, as_row_send, addressed_send) depth 20,
                (
                  search (sendable, crosses, as_row_send) depth 20,
                  (
                    search (sendable, crosses, as_row_send, rows_send) depth 20,
                    (
                      search (sendable, crosses, as_row_send) depth 20,
                      (
                        search (sendable, crosses, as_row_send) depth 20,
                        tt,
                      ),
                    ),
                  ),
                ),
              ),
            ),
          ),
        ),
      ),
    ),
  )

  state_by_fields : IsSend L → IsSend (State.the_row L)
  state_by_fields l = declared_send (State.the_type L) (state_fields l)

  pub instance_send : (a : Ghosts L.Denot) → IsSend L → IsSend (Instance.the_row L a)
  instance_send a l = let s = state_by_fields l in view_send (Inner.the_row L a) _ _ _ _ (declared_send (Inner.the_type L a) (search (sendable, crosses, as_row_send) depth 20, tt))

-- ---- workers

module _ (κ : NamedLft) (L W : RattleType) (a : Ghosts L.Denot) (b : Width.Ghosts W.Denot) where
  worker_fields : IsSend L → FieldsHave IsSend (Worker.the_type L W a b).parts
  worker_fields l =
      let i = instance_send L a l in
      let puts = table_sends (PutEnd.the_row W b) (put_sends W b) in
      let takes = table_sends (TakeEnd.the_row W b) (take_sends W b) in (
        search (sendable, crosses) depth 20,
        (
          search (sendable, crosses, as_row_send, i) depth 20,
          (
            as_row_send (Table.the_field (PutEnd.the_row W b)) puts,
            (
              as_row_send (Table.the_field (TakeEnd.the_row W b)) takes,
              tt,
            ),
          ),
        ),
      )

  worker_send : IsSend L → IsSend (Worker.the_row L W a b)
  worker_send l = declared_send (Worker.the_type L W a b) (worker_fields l)

  job_fields : IsSend L → FieldsHave IsSend (Job.the_type κ L W a b).parts
  job_fields l =
      let w = worker_send l in
      let pipes = tables_sync (Pipe.the_row W b) (pipe_syncs W b) in (
        search (sendable, crosses, as_row_send, w) depth 20,
        (
          search (sendable, crosses, as_row_send, pipes) depth 20,
          (
            search (sendable, crosses, as_row_send, flags_sync) depth 20,
            (
              search (sendable, crosses, as_row_send) depth 20,
              tt,
            ),
          ),
        ),
      )

  pub job_send : IsSend L → IsSend (Job.the_row κ L W a b)
  job_send l = declared_send (Job.the_type κ L W a b) (job_fields l)
