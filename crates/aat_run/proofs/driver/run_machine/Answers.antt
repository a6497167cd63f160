use Rattle.aat_run.proofs.driver.run_machine.Goals as goal

pub run_machine_through-requires-clause-others : goal.run_machine_through-requires-clause-others
run_machine_through-requires-clause-others g c = c.requires.others

pub run_machine_through-requires-clause-fit : goal.run_machine_through-requires-clause-fit
run_machine_through-requires-clause-fit g c = c.requires.fit

pub run_machine_through-requires-clause-ids : goal.run_machine_through-requires-clause-ids
run_machine_through-requires-clause-ids g c = c.requires.ids

pub run_machine_through-requires-clause-gapless : goal.run_machine_through-requires-clause-gapless
run_machine_through-requires-clause-gapless g c = c.requires.gapless

pub returns-in-Ok-clause-run : goal.returns-in-Ok-clause-run
returns-in-Ok-clause-run g c = c.in-Ok.ensures.run

pub returns-in-Ok-clause-registers : goal.returns-in-Ok-clause-registers
returns-in-Ok-clause-registers g c = c.in-Ok.ensures.registers

pub returns-in-Ok-clause-bounded : goal.returns-in-Ok-clause-bounded
returns-in-Ok-clause-bounded g c = c.in-Ok.ensures.bounded

pub returns-in-Ok-clause-few : goal.returns-in-Ok-clause-few
returns-in-Ok-clause-few g c = c.in-Ok.ensures.few

pub returns-in-Ok-clause-ids : goal.returns-in-Ok-clause-ids
returns-in-Ok-clause-ids g c = c.in-Ok.ensures.ids

pub returns-in-Ok-clause-settings : goal.returns-in-Ok-clause-settings
returns-in-Ok-clause-settings g c = c.in-Ok.ensures.settings

pub returns-in-Ok-clause-positions : goal.returns-in-Ok-clause-positions
returns-in-Ok-clause-positions g c = c.in-Ok.ensures.positions

pub returns-in-Err-clause-longer : goal.returns-in-Err-clause-longer
returns-in-Err-clause-longer g c = c.in-Err.ensures.longer

pub returns-in-Err-clause-reason : goal.returns-in-Err-clause-reason
returns-in-Err-clause-reason g c = c.in-Err.ensures.reason

pub returns-in-Err-clause-refused : goal.returns-in-Err-clause-refused
returns-in-Err-clause-refused g c = c.in-Err.ensures.refused

pub returns-in-Err-clause-in_place : goal.returns-in-Err-clause-in_place
returns-in-Err-clause-in_place g c = c.in-Err.ensures.in_place

pub returns-in-Err-clause-kept : goal.returns-in-Err-clause-kept
returns-in-Err-clause-kept g c = c.in-Err.ensures.kept
