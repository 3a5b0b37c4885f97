use Rattle.ba_world_play.proofs.EachLeads.{answer_leads, leads_nowhere, letter_leads}
use Rattle.ba_world_play.proofs.laws.each_message_leads.Goals as goal

pub returns-clause-letters : goal.returns-clause-letters
returns-clause-letters c w before l run sent = letter_leads w before run l sent

pub returns-clause-answers : goal.returns-clause-answers
returns-clause-answers c w before number m run sent code = answer_leads w before run number m sent code

pub returns-clause-nowhere : goal.returns-clause-nowhere
returns-clause-nowhere c = leads_nowhere
