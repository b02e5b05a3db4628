use Rattle.std.proofs.Common.{refl}
use Rattle.sentences.specs.Cases.{case_of}
use Rattle.sentences.proofs.Items.{entry_said, puts}
use Rattle.sentences.proofs.record_words.Refused.push_entry_words.Goals as goal

pub returns-in-NoObjectClass : goal.returns-in-NoObjectClass
returns-in-NoObjectClass c = entry_said (case_of c.args.self.now) _ _ _ _ _ c.in-NoObjectClass.is (puts _ _ _ _ _ refl c.push_str.ensures)

pub returns-in-UnknownClass : goal.returns-in-UnknownClass
returns-in-UnknownClass c = entry_said (case_of c.args.self.now) _ _ _ _ _ c.in-UnknownClass.is (puts _ _ _ _ _ refl c.push_unknown_class.ensures)

pub returns-in-LacksType : goal.returns-in-LacksType
returns-in-LacksType c = entry_said (case_of c.args.self.now) _ _ _ _ _ c.in-LacksType.is c.push_lacked_types.ensures

pub returns-in-TypeNotAllowed : goal.returns-in-TypeNotAllowed
returns-in-TypeNotAllowed c = entry_said (case_of c.args.self.now) _ _ _ _ _ c.in-TypeNotAllowed.is (puts _ _ _ _ _ refl c.push_not_allowed.ensures)

pub returns-in-ManyValues : goal.returns-in-ManyValues
returns-in-ManyValues c = entry_said (case_of c.args.self.now) _ _ _ _ _ c.in-ManyValues.is (puts _ _ _ _ _ refl c.push_many_values.ensures)
