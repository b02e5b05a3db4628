use Rattle.std.proofs.Common.{◌≡◌, ◌++◌, OnOk, Option, subst}
use Rattle.std.specs.String.{string_bytes}
use Rattle.paths.specs.Paths.{Path}
use Rattle.sentences.specs.Missing.{there_words}
use Rattle.sentences.proofs.Items.{put_two}
use Rattle.sentences.proofs.record_words.Refused.push_there.Goals as goal

pub returns-in-Some : goal.returns-in-Some
returns-in-Some c =
    subst (λ (o : Option Path). OnOk c.push_as_name.result (string_bytes c.push_as_name.new.words.text
    ≡ string_bytes c.args.words.now.text ++ there_words c.args.self.now.conf.now c.args.self.now.tree.now.entries o)) c.in-Some.ensures
    (put_two _ _ _ _ _ _ c.in_ok-push_str.ensures c.push_as_name.ensures)
