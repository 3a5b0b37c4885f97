use Rattle.ba_script_forms.proofs.readings.whole.Goals as goal

pub returns-in-Some-clause-stands : goal.returns-in-Some-clause-stands
returns-in-Some-clause-stands c = c.in-Some.ensures.stands c.args.chosen c.requires.stands
