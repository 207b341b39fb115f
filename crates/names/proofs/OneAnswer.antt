-- One answer of each public function (base, specs/Answers): what is said, and the buffer at the end (the first parameter, out). None asks
-- anything of its caller: that what is said begins inside the buffer is a fact of Text. Assumes nothing.
use mathlib.Core.Path.{refl, sym, ◌∙◌}
use Rattle.base.specs.Answers.{AsksNothing, OneAnswer, OneAnswerWith}
use Rattle.printing.proofs.Texts.{one-says}
use Rattle.printing.specs.Says.{left_by}
use Rattle.names.proofs.decimals.Kinds as places
use Rattle.names.proofs.decimals.Reads as places-contract
use Rattle.names.proofs.is_kind_name.Kinds as named
use Rattle.names.proofs.is_kind_name.Reads as named-contract
use Rattle.names.proofs.say_class.Kinds as class
use Rattle.names.proofs.say_class.Reads as class-contract
use Rattle.names.proofs.say_expected.Kinds as expected
use Rattle.names.proofs.say_expected.Reads as expected-contract
use Rattle.names.proofs.say_field.Kinds as field
use Rattle.names.proofs.say_field.Reads as field-contract
use Rattle.names.proofs.say_fields.Kinds as fields
use Rattle.names.proofs.say_fields.Reads as fields-contract
use Rattle.names.proofs.say_kind.Kinds as kind
use Rattle.names.proofs.say_kind.Reads as kind-contract
use Rattle.names.proofs.say_kinds.Kinds as kinds
use Rattle.names.proofs.say_kinds.Reads as kinds-contract
use Rattle.names.proofs.say_sentence.Kinds as sentence
use Rattle.names.proofs.say_sentence.Reads as sentence-contract
use Rattle.names.proofs.is_choice.Kinds as choosable
use Rattle.names.proofs.is_choice.Reads as choosable-contract
use Rattle.names.proofs.choice.Kinds as chosen
use Rattle.names.proofs.choice.Reads as chosen-contract
use Rattle.names.proofs.say_choices.Kinds as words
use Rattle.names.proofs.say_choices.Reads as words-contract
use Rattle.names.proofs.say_choice.Kinds as chosen-word
use Rattle.names.proofs.say_choice.Reads as chosen-word-contract
use Rattle.names.proofs.say_unit.Kinds as unit
use Rattle.names.proofs.say_unit.Reads as unit-contract
use Rattle.names.proofs.say_label.Kinds as label
use Rattle.names.proofs.say_label.Reads as label-contract
use Rattle.names.proofs.say_unit_name.Kinds as unit-name
use Rattle.names.proofs.say_unit_name.Reads as unit-name-contract
use Rattle.names.proofs.usual.say_ranges.Kinds as ranges
use Rattle.names.proofs.usual.say_ranges.Reads as ranges-contract
use Rattle.names.proofs.say_help.Kinds as help
use Rattle.names.proofs.say_help.Reads as help-contract
use Rattle.names.proofs.say_value.Kinds as value
use Rattle.names.proofs.say_value.Reads as value-contract
use Rattle.names.proofs.usual.usual_range.Kinds as usual
use Rattle.names.proofs.usual.usual_range.Reads as usual-contract
use Rattle.names.proofs.usual.say_usual.Kinds as usual-said
use Rattle.names.proofs.usual.say_usual.Reads as usual-said-contract
use Rattle.names.proofs.say_shown.Kinds as shown
use Rattle.names.proofs.say_shown.Reads as shown-contract

pub decimals-asks-nothing : AsksNothing places.ps places-contract.Asked
decimals-asks-nothing κs args = tt

-- How many decimals a field may have.
pub one-decimals : OneAnswer places.ps places.r places-contract.Learnt
one-decimals κs args f g e e' p q = p.0 ∙ sym q.0

pub is-kind-name-asks-nothing : AsksNothing named.ps named-contract.Asked
is-kind-name-asks-nothing κs args = tt

-- Whether a word is a kind's name.
pub one-is-kind-name : OneAnswer named.ps named.r named-contract.Learnt
one-is-kind-name κs args f g e e' p q = p ∙ sym q

pub say-kinds-asks-nothing : AsksNothing kinds.ps kinds-contract.Asked
say-kinds-asks-nothing κs args = tt

-- The names of all kinds.
pub one-say-kinds : OneAnswerWith kinds.ps kinds.r kinds-contract.Learnt (λ κs e. left_by e.0.now)
one-say-kinds κs args f g e e' p q = (refl, one-says p q)

pub say-kind-asks-nothing : AsksNothing kind.ps kind-contract.Asked
say-kind-asks-nothing κs args = tt

-- A kind's name.
pub one-say-kind : OneAnswerWith kind.ps kind.r kind-contract.Learnt (λ κs e. left_by e.0.now)
one-say-kind κs args f g e e' p q = (refl, one-says p q)

pub say-field-asks-nothing : AsksNothing field.ps field-contract.Asked
say-field-asks-nothing κs args = tt

-- A field's name.
pub one-say-field : OneAnswerWith field.ps field.r field-contract.Learnt (λ κs e. left_by e.0.now)
one-say-field κs args f g e e' p q = (refl, one-says p q)

pub say-fields-asks-nothing : AsksNothing fields.ps fields-contract.Asked
say-fields-asks-nothing κs args = tt

-- The names of a kind's fields.
pub one-say-fields : OneAnswerWith fields.ps fields.r fields-contract.Learnt (λ κs e. left_by e.0.now)
one-say-fields κs args f g e e' p q = (refl, one-says p q)

pub say-expected-asks-nothing : AsksNothing expected.ps expected-contract.Asked
say-expected-asks-nothing κs args = tt

-- What a field takes.
pub one-say-expected : OneAnswerWith expected.ps expected.r expected-contract.Learnt (λ κs e. left_by e.0.now)
one-say-expected κs args f g e e' p q = (refl, one-says p q)

pub say-class-asks-nothing : AsksNothing class.ps class-contract.Asked
say-class-asks-nothing κs args = tt

-- A class's name.
pub one-say-class : OneAnswerWith class.ps class.r class-contract.Learnt (λ κs e. left_by e.0.now)
one-say-class κs args f g e e' p q = (refl, one-says p q)

pub say-sentence-asks-nothing : AsksNothing sentence.ps sentence-contract.Asked
say-sentence-asks-nothing κs args = tt

-- A refusal's sentence.
pub one-say-sentence : OneAnswerWith sentence.ps sentence.r sentence-contract.Learnt (λ κs e. left_by e.0.now)
one-say-sentence κs args f g e e' p q = (refl, one-says p q)

pub say-shown-asks-nothing : AsksNothing shown.ps shown-contract.Asked
say-shown-asks-nothing κs args = tt

-- A word as it was typed.
pub one-say-shown : OneAnswerWith shown.ps shown.r shown-contract.Learnt (λ κs e. left_by e.0.now)
one-say-shown κs args f g e e' p q = (refl, one-says p q)

-- The words of a field, its unit, a value as it is typed, and what is usual.
pub is-choice-asks-nothing : AsksNothing choosable.ps choosable-contract.Asked
is-choice-asks-nothing κs args = tt

pub one-is-choice : OneAnswer choosable.ps choosable.r choosable-contract.Learnt
one-is-choice κs args f g e e' p q = p ∙ sym q

pub choice-asks-nothing : AsksNothing chosen.ps chosen-contract.Asked
choice-asks-nothing κs args = tt

pub one_choice : OneAnswer chosen.ps chosen.r chosen-contract.Learnt
one_choice κs args f g e e' p q = p ∙ sym q

pub say-choices-asks-nothing : AsksNothing words.ps words-contract.Asked
say-choices-asks-nothing κs args = tt

pub one-say-choices : OneAnswerWith words.ps words.r words-contract.Learnt (λ κs e. left_by e.0.now)
one-say-choices κs args f g e e' p q = (refl, one-says p q)

pub say-choice-asks-nothing : AsksNothing chosen-word.ps chosen-word-contract.Asked
say-choice-asks-nothing κs args = tt

pub one-say-choice : OneAnswerWith chosen-word.ps chosen-word.r chosen-word-contract.Learnt (λ κs e. left_by e.0.now)
one-say-choice κs args f g e e' p q = (refl, one-says p q)

pub say-unit-asks-nothing : AsksNothing unit.ps unit-contract.Asked
say-unit-asks-nothing κs args = tt

pub one-say-unit : OneAnswerWith unit.ps unit.r unit-contract.Learnt (λ κs e. left_by e.0.now)
one-say-unit κs args f g e e' p q = (refl, one-says p q)

pub say-value-asks-nothing : AsksNothing value.ps value-contract.Asked
say-value-asks-nothing κs args = tt

pub one-say-value : OneAnswerWith value.ps value.r value-contract.Learnt (λ κs e. left_by e.0.now)
one-say-value κs args f g e e' p q = (refl, one-says p q)

pub usual-range-asks-nothing : AsksNothing usual.ps usual-contract.Asked
usual-range-asks-nothing κs args = tt

pub one-usual-range : OneAnswer usual.ps usual.r usual-contract.Learnt
one-usual-range κs args f g e e' p q = p ∙ sym q

pub say-usual-asks-nothing : AsksNothing usual-said.ps usual-said-contract.Asked
say-usual-asks-nothing κs args = tt

pub one-say-usual : OneAnswerWith usual-said.ps usual-said.r usual-said-contract.Learnt (λ κs e. left_by e.0.now)
one-say-usual κs args f g e e' p q = (refl, one-says p q)

pub say-label-asks-nothing : AsksNothing label.ps label-contract.Asked
say-label-asks-nothing κs args = tt

-- A field's name and its unit without the blank before them.
pub one-say-label : OneAnswerWith label.ps label.r label-contract.Learnt (λ κs e. left_by e.0.now)
one-say-label κs args f g e e' p q = (refl, one-says p q)

pub say-unit-name-asks-nothing : AsksNothing unit-name.ps unit-name-contract.Asked
say-unit-name-asks-nothing κs args = tt

pub one-say-unit-name : OneAnswerWith unit-name.ps unit-name.r unit-name-contract.Learnt (λ κs e. left_by e.0.now)
one-say-unit-name κs args f g e e' p q = (refl, one-says p q)

pub say-ranges-asks-nothing : AsksNothing ranges.ps ranges-contract.Asked
say-ranges-asks-nothing κs args = tt

-- Which values are usual, as they are typed.
pub one-say-ranges : OneAnswerWith ranges.ps ranges.r ranges-contract.Learnt (λ κs e. left_by e.0.now)
one-say-ranges κs args f g e e' p q = (refl, one-says p q)

pub say-help-asks-nothing : AsksNothing help.ps help-contract.Asked
say-help-asks-nothing κs args = tt

-- What a field is.
pub one-say-help : OneAnswerWith help.ps help.r help-contract.Learnt (λ κs e. left_by e.0.now)
one-say-help κs args f g e e' p q = (refl, one-says p q)
