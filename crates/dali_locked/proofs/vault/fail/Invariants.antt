use Rattle.dali_locked.proofs.vault.fail.Given as goal

abbrev pub ghosts-tell_fault : goal.ghosts-tell_fault
ghosts-tell_fault g a = record { client = a.client.now.id; was = a.system.now.served.state }
