use Rattle.sentences.proofs.Faulted.{text_said, bytes_said}
use Rattle.sentences.proofs.name_words.NameText.push_unreadable.Goals as goal

pub returns-in-Ok : goal.returns-in-Ok
returns-in-Ok c = text_said _ _ c.args.self.now.text.now c.in-Ok.text.now _ _ _ c.in-Ok.ensures.cases.1 c.in-Ok.ensures.cases.0 c.in_ok-push_str.ensures c.push_faulty.ensures

pub returns-in-Err : goal.returns-in-Err
returns-in-Err c = bytes_said _ _ c.args.self.now.text.now _ _ _ c.in-Err.ensures.cases.0 c.in_ok-push_str.ensures c.push_str-in-Err.ensures
