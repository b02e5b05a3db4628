use Rattle.std.proofs.Common.{codes}
use Rattle.dir_conf.specs.RuleNames.{is_rule, is_number, text_equality_of, other_equality_of, equality_of, ordering_of, substrings_of, syntax_of}
use Rattle.checks.proofs.KnownRules.{equality_known, ordering_known, substrings_known, octets_else}
use Rattle.checks.proofs.laws.known_rules_are_read.Goals as goal

pub returns-clause-equality : goal.returns-clause-equality
unfolding equality_of text_equality_of other_equality_of
returns-clause-equality c = λ name. equality_known
    (is_rule (codes "distinguishedNameMatch") name) (is_rule (codes "caseIgnoreMatch") name) (is_rule (codes "caseIgnoreIA5Match") name)
    (is_rule (codes "caseExactMatch") name) (is_rule (codes "caseExactIA5Match") name) (is_rule (codes "numericStringMatch") name)
    (is_rule (codes "telephoneNumberMatch") name) (is_rule (codes "integerMatch") name) (is_rule (codes "booleanMatch") name)
    (is_rule (codes "octetStringMatch") name) (is_rule (codes "objectIdentifierMatch") name)

pub returns-clause-ordering : goal.returns-clause-ordering
unfolding ordering_of
returns-clause-ordering c = λ name. ordering_known
    (is_rule (codes "caseIgnoreOrderingMatch") name) (is_rule (codes "caseExactOrderingMatch") name) (is_rule (codes "numericStringOrderingMatch") name)
    (is_rule (codes "integerOrderingMatch") name) (is_rule (codes "octetStringOrderingMatch") name)

pub returns-clause-substrings : goal.returns-clause-substrings
unfolding substrings_of
returns-clause-substrings c = λ name. substrings_known
    (is_rule (codes "caseIgnoreSubstringsMatch") name) (is_rule (codes "caseIgnoreIA5SubstringsMatch") name)
    (is_rule (codes "caseExactSubstringsMatch") name) (is_rule (codes "caseExactIA5SubstringsMatch") name)
    (is_rule (codes "numericStringSubstringsMatch") name) (is_rule (codes "telephoneNumberSubstringsMatch") name)

pub returns-clause-syntax : goal.returns-clause-syntax
unfolding syntax_of
returns-clause-syntax c = λ oid none. octets_else
    (is_number (codes "11") oid) (is_number (codes "15") oid) (is_number (codes "44") oid) (is_number (codes "50") oid) (is_number (codes "26") oid)
    (is_number (codes "36") oid) (is_number (codes "7") oid) (is_number (codes "27") oid) (is_number (codes "12") oid) (is_number (codes "38") oid)
    (is_number (codes "40") oid) none
