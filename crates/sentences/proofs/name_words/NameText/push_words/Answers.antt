use Rattle.std.proofs.Common.{refl}
use Rattle.sentences.proofs.Items.{puts, why_said}
use Rattle.sentences.proofs.name_words.NameText.push_words.Goals as goal

pub returns-in-NotOneRdn : goal.returns-in-NotOneRdn
returns-in-NotOneRdn c =
    why_said c.args.self.now.conf.now c.args.self.now.what.now c.args.self.now.text.now _ _ _ _ _ c.in-NotOneRdn.is (puts _ _ _ _ _ refl c.push_not_one.ensures)

pub returns-in-OutsideSuffix : goal.returns-in-OutsideSuffix
returns-in-OutsideSuffix c =
    why_said c.args.self.now.conf.now c.args.self.now.what.now c.args.self.now.text.now _ _ _ _ _ c.in-OutsideSuffix.is (puts _ _ _ _ _ refl c.push_outside.ensures)

pub returns-in-Unreadable : goal.returns-in-Unreadable
returns-in-Unreadable c =
    why_said c.args.self.now.conf.now c.args.self.now.what.now c.args.self.now.text.now _ _ _ _ _ c.in-Unreadable.is c.push_unreadable.ensures
