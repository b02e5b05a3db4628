-- A text that is gone through, piece by piece of its source.
use Rattle.std.proofs.Common.{◌≡◌, ℕ, true, List, [], ◌++◌, Option, Some, None, refl, sym, ap, ◌∙◌, subst}
use Rattle.std.proofs.lemmas.List.{append-nil}
use Rattle.std.specs.List.{AllByRecursion}
use Rattle.std.specs.Io.KnownBytes.{Consumes, IsAtEnd}
use Rattle.device.specs.Device.{Seen, Gave, GaveSome, Pulled}
use Rattle.device.proofs.Pulls.{pulled_none, pulled_more, pulled_by}
use Rattle.values.specs.Types.{is_known}
use Rattle.schema.specs.Conf.{Conf, IsConf}
use Rattle.schema.specs.Slots.{IsSlot}
use Rattle.schema.specs.declared.slots.Slot.{Slot}
use Rattle.stored_index.specs.Reading.{lines_in}
use Rattle.stored_index.specs.Stored.{HasText}
use Rattle.stored_index.specs.inner.Drafts.{Goes}
use Rattle.stored_index.specs.inner.FaultLines.{Going}
use Rattle.stored_index.specs.inner.Named.{AreNamed}
use Rattle.stored_index.specs.declared.draft.Draft.{Draft}
use Rattle.stored_index.specs.declared.given.Given.{Given}
use Rattle.stored_index.proofs.FaultGoing.{starts}
use Rattle.stored_index.proofs.OrderLaws.{all_weaker}

-- so much of a text was gone through
pub record HasGone (given : Given) (before now : Seen) (d : Draft) (held : List ℕ) (lines : ℕ) : Type 0 where
  pub gone : List ℕ
  pub taken : Pulled before now gone
  pub same : d.given ≡ given
  pub going : Going gone d held [] lines

slots_known : (conf : Conf) → IsConf conf → (due : List Slot) → due ≡ conf.slots → AllByRecursion (λ s. is_known conf.types s.type_id ≡ true) due
slots_known conf is due due_is =
    subst (AllByRecursion (λ (s : Slot). is_known conf.types s.type_id ≡ true)) (sym due_is) (all_weaker (IsSlot conf.types) (λ s. is_known conf.types s.type_id ≡ true) (λ s slot. slot.known) conf.slots is.slots)

pub none_gone : (given : Given) (now : Seen) (d : Draft) (held : List ℕ) → IsConf given.conf.now → AreNamed given.conf.now.types → held ≡ [] → d.given ≡ given → d.due.now ≡ given.conf.now.slots
    → Goes (lines_in given.conf.now given.entries given.stamp.now) d → HasGone given now now d held 0
none_gone given now d held is named none same due goes = record {
  gone = [];
  taken = pulled_none now;
  same = same;
  going =
      starts given d same goes
      (subst (λ (g : Given). AllByRecursion (λ s. is_known g.conf.now.types s.type_id ≡ true) d.due.now) (sym same) (slots_known given.conf.now is d.due.now due))
      (subst (λ (g : Given). AreNamed g.conf.now.types) (sym same) named) held none;
}

module _ (before now later : Seen) (gone : List ℕ) (taken : Pulled before now gone) where
  pub gave_some : (piece : List ℕ) → Gave now later piece → GaveSome before later
  gave_some piece takes = record { bytes = gone ++ piece; are = pulled_more before now later gone piece taken (pulled_by now later piece takes) }

  -- each text that goes on behind a piece
  pub as_each : (piece : List ℕ) (P : List ℕ → Type 0) → Gave now later piece → ((text : List ℕ) → P ((gone ++ piece) ++ text)) → HasText before.left P
  as_each piece P takes each = by before.left (pulled_more before now later gone piece taken (pulled_by now later piece takes)).left
    where
      in_known : (xs : List ℕ) (left : Option (List ℕ)) → Consumes (Some xs) left (gone ++ piece) → HasText (Some xs) P
      in_known xs None takes = absurd takes
      in_known xs (Some rest) takes = record { text = xs; left_is = refl; says = subst P (sym takes) (each rest) }

      by : (left : Option (List ℕ)) → Consumes left later.left (gone ++ piece) → HasText left P
      by None takes = record { text = (gone ++ piece) ++ []; left_is = tt; says = each [] }
      by (Some xs) takes = in_known xs later.left takes

  -- the text ends here
  pub as_end : (P : List ℕ → Type 0) → Gave now later [] → IsAtEnd later.left → P gone → HasText before.left P
  as_end P takes ended end = by before.left (pulled_more before now later gone [] taken (pulled_by now later [] takes)).left
    where
      in_known : (xs : List ℕ) (left : Option (List ℕ)) → IsAtEnd left → Consumes (Some xs) left (gone ++ []) → HasText (Some xs) P
      in_known xs None none takes = absurd takes
      in_known xs (Some rest) none takes = record {
        text = gone;
        left_is = sym (takes ∙ ap (λ (bytes : List ℕ). (gone ++ []) ++ bytes) none ∙ append-nil (gone ++ []) ∙ append-nil gone);
        says = end;
      }

      by : (left : Option (List ℕ)) → Consumes left later.left (gone ++ []) → HasText left P
      by None takes = record { text = gone; left_is = tt; says = end }
      by (Some xs) takes = in_known xs later.left ended takes
