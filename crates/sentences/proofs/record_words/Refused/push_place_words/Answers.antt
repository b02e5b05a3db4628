use Rattle.std.proofs.Common.{refl}
use Rattle.sentences.specs.Cases.{case_of}
use Rattle.sentences.proofs.Items.{said, missing_said, puts, no_place}
use Rattle.sentences.proofs.record_words.Refused.push_place_words.Goals as goal

pub returns-in-IsThere : goal.returns-in-IsThere
returns-in-IsThere c = λ h. said (case_of c.args.self.now) _ _ _ _ _ c.in-IsThere.is (puts _ _ _ _ _ refl c.push_there.ensures)

pub returns-in-NoParent : goal.returns-in-NoParent
returns-in-NoParent c = λ h. said (case_of c.args.self.now) _ _ _ _ _ c.in-NoParent.is c.push_no_parent.ensures

pub returns-in-NoEntry : goal.returns-in-NoEntry
returns-in-NoEntry c = λ h.
    said (case_of c.args.self.now) _ _ _ _ _ c.in-NoEntry.is
    (missing_said (case_of c.args.self.now) _ _ _ _ _ _ _ c.dn.ensures c.path.ensures c.push_missing.ensures)

pub returns-in-HasChildren : goal.returns-in-HasChildren
returns-in-HasChildren c = λ h. said (case_of c.args.self.now) _ _ _ _ _ c.in-HasChildren.is (puts _ _ _ _ _ refl c.push_children.ensures)

pub returns-in-NoSuperior : goal.returns-in-NoSuperior
returns-in-NoSuperior c = λ h. said (case_of c.args.self.now) _ _ _ _ _ c.in-NoSuperior.is c.push_no_superior.ensures

pub returns-in-NoRdnValue : goal.returns-in-NoRdnValue
returns-in-NoRdnValue c = λ h. said (case_of c.args.self.now) _ _ _ _ _ c.in-NoRdnValue.is (puts _ _ _ _ _ refl c.push_rdn_value.ensures)

pub returns-in-IsSuffix : goal.returns-in-IsSuffix
returns-in-IsSuffix c = λ h. said (case_of c.args.self.now) _ _ _ _ _ c.in-IsSuffix.is (puts _ _ _ _ _ refl c.push_str.ensures)

pub returns-in-BelowItself : goal.returns-in-BelowItself
returns-in-BelowItself c = λ h. said (case_of c.args.self.now) _ _ _ _ _ c.in-BelowItself.is (puts _ _ _ _ _ refl c.push_str-in-BelowItself.ensures)

pub returns-in-IsTaken : goal.returns-in-IsTaken
returns-in-IsTaken c = λ h. said (case_of c.args.self.now) _ _ _ _ _ c.in-IsTaken.is (puts _ _ _ _ _ refl c.push_str-in-IsTaken.ensures)

pub returns-in-Full : goal.returns-in-Full
returns-in-Full c = λ h. said (case_of c.args.self.now) _ _ _ _ _ c.in-Full.is (puts _ _ _ _ _ refl c.push_str-in-Full.ensures)

pub returns-in_default : goal.returns-in_default
returns-in_default c = λ h.
    absurd (no_place c.args.reason.now c.in_default.not-NoRdnValue c.in_default.not-IsSuffix c.in_default.not-BelowItself c.in_default.not-IsTaken
    c.in_default.not-Full c.in_default.not-IsThere c.in_default.not-NoParent c.in_default.not-NoEntry c.in_default.not-HasChildren c.in_default.not-NoSuperior h)
