use Rattle.flow_run.proofs.runs.run_in_turn.Given as goal

abbrev pub ghosts-run_turns : goal.ghosts-run_turns
ghosts-run_turns g a = record { fields = a.program.now.fields }
