use Rattle.std.proofs.Common.{codes, refl}
use Rattle.sentences.specs.Cases.{case_of}
use Rattle.sentences.proofs.Items.{said, name_said, puts, placed}
use Rattle.sentences.proofs.record_words.Refused.push_words.Goals as goal

pub returns-in-CriticalControl : goal.returns-in-CriticalControl
returns-in-CriticalControl c = said (case_of c.args.self.now) _ _ _ _ _ c.in-CriticalControl.is (puts _ _ _ _ _ refl c.push_control.ensures)

pub returns-in-Name : goal.returns-in-Name
returns-in-Name c =
    said (case_of c.args.self.now) _ _ _ _ _ c.in-Name.is
    (name_said c.args.self.now.conf.now (codes "the name") _ _ _ _ _ _ c.dn.ensures c.push_name_words.ensures)

pub returns-in-Line : goal.returns-in-Line
returns-in-Line c = said (case_of c.args.self.now) _ _ _ _ _ c.in-Line.is c.push_line_words.ensures

pub returns-in-Block : goal.returns-in-Block
returns-in-Block c = said (case_of c.args.self.now) _ _ _ _ _ c.in-Block.is (puts _ _ _ _ _ refl c.push_block_words.ensures)

pub returns-in-Value : goal.returns-in-Value
returns-in-Value c = said (case_of c.args.self.now) _ _ _ _ _ c.in-Value.is c.push_value_words.ensures

pub returns-in-NewRdn : goal.returns-in-NewRdn
returns-in-NewRdn c =
    said (case_of c.args.self.now) _ _ _ _ _ c.in-NewRdn.is
    (name_said c.args.self.now.conf.now (codes "newrdn") _ _ _ _ _ _ c.new_rdn.ensures c.push_name_words-in-NewRdn.ensures)

pub returns-in-Superior : goal.returns-in-Superior
returns-in-Superior c =
    said (case_of c.args.self.now) _ _ _ _ _ c.in-Superior.is
    (name_said c.args.self.now.conf.now (codes "newsuperior") _ _ _ _ _ _ c.superior_text.ensures c.push_name_words-in-Superior.ensures)

pub returns-in-Entry : goal.returns-in-Entry
returns-in-Entry c = said (case_of c.args.self.now) _ _ _ _ _ c.in-Entry.is c.push_entry_words.ensures

pub returns-in_default : goal.returns-in_default
returns-in_default c =
    c.push_place_words.ensures (placed c.args.reason.now c.in_default.not-CriticalControl c.in_default.not-Line c.in_default.not-Block
    c.in_default.not-Value c.in_default.not-Entry c.in_default.not-Name c.in_default.not-NewRdn c.in_default.not-Superior)
