-- An account, field by field: before any record, what each sort of record makes of it (document 01, "The book"), and as the numbers that the image of
-- a state is made of (document 02, W12).
-- Assumes nothing.
use Rattle.std.specs.Prelude.{ℕ, ◌+◌, ◌^◌, ◌%◌, List, [], ◌∷◌, ◌++◌, get_or, replicate, eqb}
use Rattle.base.specs.Choice.{pick}
use Rattle.codec.specs.declared.Field.{Field}
use Rattle.codec.specs.Table.{field, last_row}
use Rattle.line_bytes.specs.Lines.{figure, figure_count}
use Rattle.grams.specs.Farm.{set_factors}
use Rattle.grams.specs.Units.{grams_n2o, grams_grazed, co2_of_word}
use Rattle.grams.specs.declared.farm.Factors.{Factors}
use Rattle.account.specs.declared.Account.{Account}
use Rattle.account.specs.declared.Farm.{Farm}
use Rattle.account.specs.declared.Figures.{Figures}
use Rattle.account.specs.declared.Heading.{Heading}
use Rattle.account.specs.declared.Refusal.{Refusal}
use Rattle.account.specs.declared.Subtotal.{Subtotal}
use Rattle.account.specs.declared.Used.{Used}
use Rattle.account.specs.Figures.{no_figures, no_subtotal, added, listed}

-- ---- what a record sets, and what it uses

-- the warming factors of a farm record: those of its set, or with version 2 its own
abbrev pub farm_factors : ℕ → List ℕ → Factors
farm_factors row v = pick (eqb row last_row) (record { ch4 = get_or v 2 0; n2o = get_or v 3 0 }) (set_factors (get_or v 2 0))

-- what a farm record of a row and the values v sets
abbrev pub farm_of : ℕ → List ℕ → Farm
farm_of row v = record { ch4 = (farm_factors row v).ch4; n2o = (farm_factors row v).n2o }

-- the factors that CO2e goes by
abbrev pub factors_of : Farm → Factors
factors_of f = record { ch4 = f.ch4; n2o = f.n2o }

-- what is used with a record of a row and the values v: the days of kinds 3, 4 and 5, the grazed fraction of kind 10; other kinds use nothing
abbrev pub used_after : Used → ℕ → List ℕ → Used
used_after u row v =
    record {
      enteric = pick (eqb row 3) (u.enteric + get_or v 0 0) u.enteric;
      nitrogen = pick (eqb row 4) (u.nitrogen + get_or v 0 0) u.nitrogen;
      pig = pick (eqb row 5) (u.pig + get_or v 0 0) u.pig;
      grazed = pick (eqb row 10) (u.grazed + get_or v 3 0) u.grazed;
    }

-- ---- before any record, and made of another

-- nothing set yet
abbrev pub no_farm : Farm
no_farm = record { ch4 = 0; n2o = 0 }

-- nothing used yet
abbrev pub none_used : Used
none_used = record { enteric = 0; nitrogen = 0; pig = 0; grazed = 0 }

-- before any record
abbrev pub no_record : Account
no_record =
    record {
      stage = 0;
      records = 0;
      farm = no_farm;
      heading = record { group = 0; class = 0; head = 0 };
      subtotal = no_subtotal;
      used = none_used;
      sums = no_figures;
      refusal = record { code = 0; accepted = 0; field = 0 };
    }

-- at another stage, with so many records and this refusal; all the rest is kept
abbrev pub standing : Account → ℕ → ℕ → Refusal → Account
standing a stage records refusal =
    record {
      stage = stage;
      records = records;
      farm = a.farm;
      heading = a.heading;
      subtotal = a.subtotal;
      used = a.used;
      sums = a.sums;
      refusal = refusal;
    }

-- refused: code, records accepted so far and field are stored, all the rest is kept
abbrev pub refused : Account → ℕ → ℕ → Account
refused a code field = standing a 3 a.records (record { code = code; accepted = a.records; field = field })

-- a farm record opens the book and sets what is the farm's
abbrev pub opened : Account → Farm → Account
opened a farm =
    record {
      stage = 1;
      records = a.records + 1;
      farm = farm;
      heading = a.heading;
      subtotal = a.subtotal;
      used = a.used;
      sums = a.sums;
      refusal = a.refusal;
    }

-- a new heading: nothing is used under it, and the subtotal is zero
abbrev pub under_heading : Account → ℕ → ℕ → ℕ → Account
under_heading a group class head =
    record {
      stage = a.stage;
      records = a.records + 1;
      farm = a.farm;
      heading = record { group = group; class = class; head = head };
      subtotal = no_subtotal;
      used = none_used;
      sums = a.sums;
      refusal = a.refusal;
    }

-- a detail adds what it uses and its figures; the heading stays
abbrev pub with_detail : Account → Used → Subtotal → Figures → Account
with_detail a used subtotal f =
    record {
      stage = a.stage;
      records = a.records + 1;
      farm = a.farm;
      heading = a.heading;
      subtotal = subtotal;
      used = used;
      sums = added a.sums f;
      refusal = a.refusal;
    }

-- the close: one record more, and all the rest stays
abbrev pub closed : Account → Account
closed a = standing a 2 (a.records + 1) a.refusal

-- ---- as numbers, each with the bytes that hold it

-- fields of one and of two bytes, for any number that these hold: its ranges are those of specs/Range
abbrev one : Field
one = field 1 0 255

abbrev two : Field
two = field 2 0 65535

-- stage and records; the CH4 and the N2O factor; group, class and head; the days of kinds 3, 4 and 5 and the grazed fraction; the subtotal's CH4,
-- N2O, excreted and land nitrogen; the sums, in the order of a line; the refusal's code, the records accepted before it, its field
unfoldable pub account_fields : List Field
account_fields =
    one ∷ two ∷ two ∷ two ∷ two ∷ one ∷ two ∷ two ∷ two ∷ two ∷ two
    ∷ (replicate 4 figure ++ (replicate figure_count figure ++ (one ∷ two ∷ one ∷ [])))

-- the bytes of the number i
abbrev pub width_of : ℕ → ℕ
width_of i = (get_or account_fields i (field 0 0 0)).0

-- the numbers, part by part
abbrev pub start_numbers : Account → List ℕ
start_numbers a = a.stage ∷ a.records ∷ a.farm.ch4 ∷ a.farm.n2o ∷ []

abbrev pub heading_numbers : Heading → List ℕ
heading_numbers h = h.group ∷ h.class ∷ h.head ∷ []

abbrev pub used_numbers : Used → List ℕ
used_numbers u = u.enteric ∷ u.nitrogen ∷ u.pig ∷ u.grazed ∷ []

abbrev pub subtotal_numbers : Subtotal → List ℕ
subtotal_numbers s = s.ch4 ∷ s.n2o.0 ∷ s.excreted ∷ s.land ∷ []

abbrev pub refusal_numbers : Refusal → List ℕ
refusal_numbers r = r.code ∷ r.accepted ∷ r.field ∷ []

-- all of them
abbrev pub numbers_of : Account → List ℕ
numbers_of a =
    start_numbers a
    ++ (heading_numbers a.heading
    ++ (used_numbers a.used ++ (subtotal_numbers a.subtotal ++ (listed a.sums ++ refusal_numbers a.refusal))))

-- the account of the numbers v, of which those of one and of two bytes are cut; any cut, so that one list serves `account_of`, for the contract of
-- account_numbers, and the proof of the way back, which cuts nothing
abbrev pub account_by : (ℕ → ℕ → ℕ) → List ℕ → Account
account_by cut v =
    record {
      stage = cut 1 (get_or v 0 0);
      records = cut 2 (get_or v 1 0);
      farm = record { ch4 = cut 2 (get_or v 2 0); n2o = cut 2 (get_or v 3 0) };
      heading = record { group = cut 2 (get_or v 4 0); class = cut 1 (get_or v 5 0); head = cut 2 (get_or v 6 0) };
      subtotal = record { ch4 = get_or v 11 0; n2o = grams_n2o (get_or v 12 0); excreted = get_or v 13 0; land = get_or v 14 0 };
      used =
          record { enteric = cut 2 (get_or v 7 0); nitrogen = cut 2 (get_or v 8 0); pig = cut 2 (get_or v 9 0); grazed = cut 2 (get_or v 10 0) };
      sums =
          record {
            ch4 = get_or v 15 0;
            n2o = grams_n2o (get_or v 16 0);
            co2 = co2_of_word (get_or v 17 0);
            excreted = get_or v 18 0;
            land = get_or v 19 0;
            grazing = grams_grazed (get_or v 20 0);
          };
      refusal = record { code = cut 1 (get_or v 21 0); accepted = cut 2 (get_or v 22 0); field = cut 1 (get_or v 23 0) };
    }

-- what w bytes keep of a number
abbrev pub cut_to : ℕ → ℕ → ℕ
cut_to w n = n % 256 ^ w

-- the account of these numbers, each cut to its bytes
abbrev pub account_of : List ℕ → Account
account_of v = account_by cut_to v
