use Rattle.std.proofs.Common.{◌≡◌, Bool, true, false, codes, refl, sym, arith}
use Rattle.std.specs.Prelude.{◌||◌}
use Rattle.std.specs.Str.{bytes_eq}
use Rattle.std.proofs.lemmas.Slice.Eq.{bytes_eq-Decides}
use Rattle.clap.specs.Words.{Text}
use Rattle.std.proofs.lemmas.Grind.{common_steps}
use Rattle.command_line.proofs.reading.folder_request_of.Goals as goal

-- a name of a list that isn't the first one is one of the others
not_this : (word name : Text) (others : Bool) → ¬ (name ≡ word) → bytes_eq word name || others ≡ true → others ≡ true
not_this word name others other h = by (bytes_eq word name) (bytes_eq-Decides word name).0 h
  where
    by : (b : Bool) → (b ≡ true → word ≡ name) → b || others ≡ true → others ≡ true
    by true d h = absurd (other (sym (d refl)))
    by false d h = h

no_more : false ≡ true → ⊥
no_more h = cc

pub unreachable-requires : goal.unreachable-requires
unreachable-requires c =
    let name = c.args.name.now in
    no_more (not_this (codes "schema") name _ c.requires.has_folder.1 (not_this (codes "sort") name _ c.requires.has_folder.0
    (not_this (codes "check") name _ c.in_default.not-check (not_this (codes "ldifdiff") name _ c.in_default.not-ldifdiff (not_this (codes "slapcat") name _ c.in_default.not-slapcat (not_this (codes "search") name _ c.in_default.not-search (not_this (codes "slapindex") name _ c.in_default.not-slapindex (not_this (codes "ldapmodify") name _ c.in_default.not-ldapmodify (not_this (codes "slapadd") name _ c.in_default.not-slapadd c.requires.whole.0)))))))))

pub returns-in_err-search_options-in-search-clause-asked : goal.returns-in_err-search_options-in-search-clause-asked
returns-in_err-search_options-in-search-clause-asked c = grind (arith, common_steps)
