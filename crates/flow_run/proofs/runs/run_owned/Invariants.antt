use Rattle.flow_run.proofs.runs.run_owned.Given as goal

abbrev pub ghosts-run_on_threads : goal.ghosts-run_on_threads
ghosts-run_on_threads g a = record { fields = a.program.now.fields }
