-- Elements of lists, and what is put behind a text.
use Rattle.std.proofs.Common.{◌≡◌, ℕ, ◌++◌, true, List, length, Option, Some, None, Result, Ok, Err, OnOk, IfOk, Bor, [], sym, ap, refl, subst, ◌∙◌}
use Rattle.std.specs.FinMap as finite
use Rattle.std.specs.Slice.{IsItemAt}
use Rattle.std.specs.Option.{option_copied}
use Rattle.std.specs.List.{slice_get}
use Rattle.std.specs.String.{string_bytes}
use Rattle.std.proofs.lemmas.List.{append_assoc}
use Rattle.std.proofs.lemmas.Option.{slice_get_read, slice_get_past}
use Rattle.paths.specs.Paths.{Path}
use Rattle.schema.specs.Conf.{Conf}
use Rattle.entries.specs.Entries.{EntryContent}
use Rattle.tree.specs.Directories.{Entries}
use Rattle.reasons.specs.Asked.{name_of_record}
use Rattle.reasons.specs.declared.reason.LineReason.{LineReason}
use Rattle.reasons.specs.declared.reason.BlockReason.{BlockReason}
use Rattle.reasons.specs.declared.reason.ValueReason.{ValueReason}
use Rattle.reasons.specs.declared.reason.EntryReason.{EntryReason}
use Rattle.reasons.specs.declared.reason.NameReason.{NameReason}
use Rattle.reasons.specs.declared.reason.Reason.{Reason}
use Rattle.reasons.specs.declared.reason.Reason.TheVariants as reasons
use Rattle.sentences.specs.NameWords.{IsNameWords}
use Rattle.sentences.specs.RecordWords.{Case, IsWords, IsEntryWords, IsMissing, IsSentenceOf, PartBeginsOn, entry_at, is_place, part_of, place_words, rdn_value}
use Rattle.sentences.specs.Cuts.{sentence_of}
use Rattle.sentences.specs.declared.lines.Sentence.{Sentence}

item : {X : Type 0} (xs : List X) (i : ℕ) (r : Option (Bor X)) → IsItemAt xs i r → slice_get xs i ≡ option_copied r
item xs i None at = slice_get_past xs i at.3
item xs i (Some x) at = slice_get_read xs (length xs) i x.now refl at.3.0 at.1

-- what `get` finds in a list that is known by another name
pub item_at : {X : Type 0} (xs ys : List X) (i k : ℕ) (r : Option (Bor X)) → ys ≡ xs → k ≡ i → IsItemAt ys k r → slice_get xs i ≡ option_copied r
item_at {X} xs ys i k r same place at =
    subst (λ (zs : List X). slice_get zs i ≡ option_copied r) same (subst (λ (j : ℕ). slice_get ys j ≡ option_copied r) place (item ys k r at))

-- words that are put are words of which something holds
pub puts : {E : Type 0} (r : Result (Unit {0}) E) (old new words : List ℕ) (P : List ℕ → Type 0) → P words
    → OnOk r (new ≡ old ++ words) → OnOk r ((ws : List ℕ) × P ws × (new ≡ old ++ ws))
puts (Ok u) old new words P holds put = (words, holds, put)
puts (Err e) old new words P holds put = tt

-- two pieces, and three
pub put_two : {E : Type 0} (r : Result (Unit {0}) E) (new old mid a b : List ℕ) → mid ≡ old ++ a → OnOk r (new ≡ mid ++ b) → OnOk r (new ≡ old ++ (a ++ b))
put_two r new old mid a b first last =
    subst (λ (v : List ℕ). OnOk r (new ≡ v)) (ap (λ m. m ++ b) first ∙ append_assoc old a b) last

pub put_three : {E : Type 0} (r : Result (Unit {0}) E) (new old one two a b c : List ℕ) → one ≡ old ++ a → two ≡ one ++ b → OnOk r (new ≡ two ++ c)
    → OnOk r (new ≡ old ++ ((a ++ b) ++ c))
put_three r new old one two a b c first second last =
    put_two r new old two (a ++ b) c (second ∙ ap (λ m. m ++ b) first ∙ append_assoc old a b) last

pub put_four : {E : Type 0} (r : Result (Unit {0}) E) (new old one two three a b c d : List ℕ) → one ≡ old ++ a → two ≡ one ++ b → three ≡ two ++ c
    → OnOk r (new ≡ three ++ d) → OnOk r (new ≡ old ++ (((a ++ b) ++ c) ++ d))
put_four r new old one two three a b c d first second third last =
    put_three r new old two three (a ++ b) c d (second ∙ ap (λ m. m ++ b) first ∙ append_assoc old a b) third last

-- ---- the value of an RDN

pub rdn_none : (d : Entries) (o : Option Path) (ava : ℕ) → o ≡ None → rdn_value (entry_at d o) ava ≡ None
rdn_none d o ava none = rw none refl

pub rdn_missing : (d : Entries) (o : Option Path) (path : Path) (ava : ℕ) → o ≡ Some path → finite.get d path ≡ None → rdn_value (entry_at d o) ava ≡ None
rdn_missing d o path ava at none = rw (at, none) refl

pub rdn_found : (d : Entries) (o : Option Path) (path : Path) (e : EntryContent) (ava : ℕ) → o ≡ Some path → finite.get d path ≡ Some e
    → rdn_value (entry_at d o) ava ≡ slice_get e.rdn ava
rdn_found d o path e ava at there = rw (at, there) refl

-- ---- reasons

pub said : {E : Type 0} (c : Case) (reason told : Reason) (old new : List ℕ) (r : Result (Unit {0}) E) → reason ≡ told
    → OnOk r ((ws : List ℕ) × IsWords c told ws × (new ≡ old ++ ws)) → OnOk r ((ws : List ℕ) × IsWords c reason ws × (new ≡ old ++ ws))
said c reason told old new r is h = subst (λ (x : Reason). OnOk r ((ws : List ℕ) × IsWords c x ws × (new ≡ old ++ ws))) (sym is) h

pub missing_said : {E : Type 0} (c : Case) (name told : List ℕ) (o p : Option Path) (old new : List ℕ) (r : Result (Unit {0}) E) → name ≡ told → o ≡ p
    → OnOk r ((ws : List ℕ) × IsMissing c name o ws × (new ≡ old ++ ws)) → OnOk r ((ws : List ℕ) × IsMissing c told p ws × (new ≡ old ++ ws))
missing_said c name told o p old new r is at h =
    subst (λ (q : Option Path). OnOk r ((ws : List ℕ) × IsMissing c told q ws × (new ≡ old ++ ws))) at
    (subst (λ (n : List ℕ). OnOk r ((ws : List ℕ) × IsMissing c n o ws × (new ≡ old ++ ws))) is h)

pub entry_said : {E : Type 0} (c : Case) (why told : EntryReason) (old new : List ℕ) (r : Result (Unit {0}) E) → why ≡ told
    → OnOk r ((ws : List ℕ) × IsEntryWords c told ws × (new ≡ old ++ ws)) → OnOk r ((ws : List ℕ) × IsEntryWords c why ws × (new ≡ old ++ ws))
entry_said c why told old new r is h = subst (λ (x : EntryReason). OnOk r ((ws : List ℕ) × IsEntryWords c x ws × (new ≡ old ++ ws))) (sym is) h

-- the same of a name that is known to be another text
pub name_said : {E : Type 0} (conf : Conf) (what text other : List ℕ) (why : NameReason) (old new : List ℕ) (r : Result (Unit {0}) E) → text ≡ other
    → OnOk r ((ws : List ℕ) × IsNameWords conf what text why ws × (new ≡ old ++ ws))
    → OnOk r ((ws : List ℕ) × IsNameWords conf what other why ws × (new ≡ old ++ ws))
name_said conf what text other why old new r same h =
    subst (λ (t : List ℕ). OnOk r ((ws : List ℕ) × IsNameWords conf what t why ws × (new ≡ old ++ ws))) same h

pub why_said : {E : Type 0} (conf : Conf) (what text : List ℕ) (why told : NameReason) (old new : List ℕ) (r : Result (Unit {0}) E) → why ≡ told
    → OnOk r ((ws : List ℕ) × IsNameWords conf what text told ws × (new ≡ old ++ ws))
    → OnOk r ((ws : List ℕ) × IsNameWords conf what text why ws × (new ≡ old ++ ws))
why_said conf what text why told old new r is h =
    subst (λ (x : NameReason). OnOk r ((ws : List ℕ) × IsNameWords conf what text x ws × (new ≡ old ++ ws))) (sym is) h

-- a reason that is of no part of a record is of a place
pub placed : (reason : Reason) → ((x : ℕ) → reason ≡ reasons.CriticalControl x → ⊥) → ((x : ℕ) (y : LineReason) → reason ≡ reasons.Line x y → ⊥)
    → ((x : ℕ) (y : BlockReason) → reason ≡ reasons.Block x y → ⊥) → ((x y : ℕ) (z : ValueReason) → reason ≡ reasons.Value x y z → ⊥)
    → ((x : EntryReason) → reason ≡ reasons.Entry x → ⊥) → ((x : NameReason) → reason ≡ reasons.Name x → ⊥)
    → ((x : NameReason) → reason ≡ reasons.NewRdn x → ⊥) → ((x : NameReason) → reason ≡ reasons.Superior x → ⊥)
    → is_place reason ≡ true
placed (reasons.CriticalControl x) nc nl nb nv ne nn nr ns = absurd (nc x refl)
placed (reasons.Line x y) nc nl nb nv ne nn nr ns = absurd (nl x y refl)
placed (reasons.Block x y) nc nl nb nv ne nn nr ns = absurd (nb x y refl)
placed (reasons.Value x y z) nc nl nb nv ne nn nr ns = absurd (nv x y z refl)
placed (reasons.Entry x) nc nl nb nv ne nn nr ns = absurd (ne x refl)
placed (reasons.Name x) nc nl nb nv ne nn nr ns = absurd (nn x refl)
placed (reasons.NewRdn x) nc nl nb nv ne nn nr ns = absurd (nr x refl)
placed (reasons.Superior x) nc nl nb nv ne nn nr ns = absurd (ns x refl)
placed _ nc nl nb nv ne nn nr ns = refl

-- those of a place are these
pub no_place : (reason : Reason) → ((x : ℕ) → reason ≡ reasons.NoRdnValue x → ⊥) → (reason ≡ reasons.IsSuffix → ⊥) → (reason ≡ reasons.BelowItself → ⊥)
    → (reason ≡ reasons.IsTaken → ⊥) → (reason ≡ reasons.Full → ⊥) → (reason ≡ reasons.IsThere → ⊥) → (reason ≡ reasons.NoParent → ⊥)
    → (reason ≡ reasons.NoEntry → ⊥) → (reason ≡ reasons.HasChildren → ⊥) → (reason ≡ reasons.NoSuperior → ⊥) → is_place reason ≡ true → ⊥
no_place (reasons.NoRdnValue x) nr ns nb nt nf ni np ne nc nu h = nr x refl
no_place reasons.IsSuffix nr ns nb nt nf ni np ne nc nu h = ns refl
no_place reasons.BelowItself nr ns nb nt nf ni np ne nc nu h = nb refl
no_place reasons.IsTaken nr ns nb nt nf ni np ne nc nu h = nt refl
no_place reasons.Full nr ns nb nt nf ni np ne nc nu h = nf refl
no_place reasons.IsThere nr ns nb nt nf ni np ne nc nu h = ni refl
no_place reasons.NoParent nr ns nb nt nf ni np ne nc nu h = np refl
no_place reasons.NoEntry nr ns nb nt nf ni np ne nc nu h = ne refl
no_place reasons.HasChildren nr ns nb nt nf ni np ne nc nu h = nc refl
no_place reasons.NoSuperior nr ns nb nt nf ni np ne nc nu h = nu refl
no_place (reasons.CriticalControl x) nr ns nb nt nf ni np ne nc nu h = cc
no_place (reasons.Line x y) nr ns nb nt nf ni np ne nc nu h = cc
no_place (reasons.Block x y) nr ns nb nt nf ni np ne nc nu h = cc
no_place (reasons.Value x y z) nr ns nb nt nf ni np ne nc nu h = cc
no_place (reasons.Entry x) nr ns nb nt nf ni np ne nc nu h = cc
no_place (reasons.Name x) nr ns nb nt nf ni np ne nc nu h = cc
no_place (reasons.NewRdn x) nr ns nb nt nf ni np ne nc nu h = cc
no_place (reasons.Superior x) nr ns nb nt nf ni np ne nc nu h = cc

pub at_ok : {E : Type 0} (r : Result (Unit {0}) E) (u : Unit {0}) (P : Type 0) → r ≡ Ok u → OnOk r P → P
at_ok r u P is h = subst (λ (x : Result (Unit {0}) _). OnOk x P) is h

-- ---- the sentence

pub sentence_said : {E : Type 0} (r : Result Sentence E) (c : Case) (reason : Reason) (line : Option ℕ) (empty front whole : List ℕ) → empty ≡ []
    → front ≡ empty ++ place_words line (name_of_record c.asked) → PartBeginsOn c.raw c.asked (part_of reason) line
    → (ws : List ℕ) × IsWords c reason ws × (whole ≡ front ++ ws)
    → IfOk r (λ made. string_bytes made.text ≡ sentence_of whole)
    → IfOk r (λ s. IsSentenceOf c reason (string_bytes s.text))
sentence_said (Ok s) c reason line empty front whole none place begins p made =
    let f : front ≡ place_words line (name_of_record c.asked) = place ∙ ap (λ x. x ++ place_words line (name_of_record c.asked)) none in
    record {
      number = line;
      words = p.0;
      line = begins;
      why = p.1;
      is = made ∙ ap sentence_of (p.2 ∙ ap (λ x. x ++ p.0) f);
    }
sentence_said (Err e) c reason line empty front whole none place begins p made = tt
