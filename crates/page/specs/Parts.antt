-- The member's page, part by part, from top to bottom: head, total, groups, sources, gases, notes and foot; and the page of a book that is not
-- closed.
-- Assumes nothing.
use Rattle.std.specs.Prelude.{ℕ, Bool, false, List, [], ◌++◌, ◌==◌, Option, Some, None}
use Rattle.base.specs.Choice.{pick}
use Rattle.printing.specs.Ascii.{ascii}
use Rattle.printing.specs.Decimal.{decimal}
use Rattle.typed_words.specs.Words.{nth_part}
use Rattle.names.specs.Names.{class_name}
use Rattle.grams.specs.Round.{round_div}
use Rattle.page.specs.declared.Group.{Group}
use Rattle.page.specs.declared.Named.{Named}
use Rattle.page.specs.declared.Scale.{Scale}
use Rattle.page.specs.declared.Source.{Source}
use Rattle.page.specs.declared.Sources.{Sources}
use Rattle.page.specs.declared.Survey.{Survey}
use Rattle.page.specs.Text.{below, kilograms, figure_text, cell_text}
use Rattle.page.specs.Bars.{plus8, bar_text}
use Rattle.page.specs.Style.{style_text}
use Rattle.page.specs.Figures.{of_farm, group_scale, source_scale}

-- ---- the head

-- the farm and the year, where the farm record was accepted
abbrev pub named_text : Option Named → List ℕ
named_text None = ascii "No farm"
named_text (Some name) = ascii "Farm " ++ (decimal name.farm ++ (ascii ", " ++ decimal name.year))

unfoldable pub name_text : Survey → List ℕ
name_text s = named_text s.name

-- what it is
unfoldable pub title_text : Bool → List ℕ
title_text closed = pick closed (ascii ": greenhouse gas statement") (ascii ": not for members")

-- all that stands above the total, or above why there is none
unfoldable pub head_text : Survey → List ℕ
head_text s =
    ascii "<!doctype html>\n<html lang=\"en\">\n<head>\n<meta charset=\"utf-8\">\n"
    ++ (ascii "<meta name=\"viewport\" content=\"width=device-width\">\n<title>"
    ++ (name_text s
    ++ (title_text s.closed
    ++ (style_text
    ++ (name_text s
    ++ (ascii "\"; font:8pt sans-serif; color:#566059 } } }\n</style>\n</head>\n<body>\n<main>\n<header>\n<h1>"
    ++ (name_text s
    ++ ascii "</h1>\n<p>Greenhouse gas statement</p>\n</header>\n")))))))

-- ---- the total

-- CO2e of the total line
unfoldable pub total_text : Survey → List ℕ
total_text s =
    ascii "<div class=\"total\">\n<p>Total of the year</p>\n<p id=\"total\" class=\"sum\">"
    ++ (kilograms s.total
    ++ (ascii " <span>kg CO<sub>2</sub>e</span></p>\n"
    ++ (ascii "<p class=\"soft\">CO<sub>2</sub>e makes the gases comparable: it says how many kilograms of CO<sub>2</sub> warm as much.\n"
    ++ ascii "Three tables show how the total is made up, and each ends in it.</p>\n</div>\n")))

-- ---- the groups

-- the head of the table, with the two factors
unfoldable pub groups_head : Survey → List ℕ
groups_head s =
    ascii "<section>\n<h2>By group</h2>\n<p>In kilograms. CO<sub>2</sub>e is "
    ++ (decimal s.a
    ++ (ascii " &times; CH<sub>4</sub> + "
    ++ (decimal s.b
    ++ (ascii " &times; N<sub>2</sub>O + grazing. The bars, end to end, make the total.</p>\n<table id=\"groups\" class=\"wide\">\n"
    ++ (ascii "<thead><tr><th>Group</th><th>Head</th><th>CO<sub>2</sub>e<br>per head</th><th>Nitrogen<br>excreted</th><th>Nitrogen<br>for land</th>\n"
    ++ (ascii "<th>Methane<br>CH<sub>4</sub></th><th>Nitrous oxide<br>N<sub>2</sub>O</th><th>Grazing<br>CO<sub>2</sub>e</th>\n"
    ++ ascii "<th>Together<br>CO<sub>2</sub>e</th></tr></thead>\n"))))))

-- the page of a closed book up to the row of its first group
unfoldable pub top_text : Survey → List ℕ
top_text s =
    head_text s
    ++ (total_text s
    ++ groups_head s)

-- a group: its number and class
unfoldable pub heading_text : ℕ → ℕ → List ℕ
heading_text group class =
    ascii "<tbody><tr data-group=\""
    ++ (decimal group
    ++ (ascii "\"><th><b>Group "
    ++ (decimal group
    ++ (ascii "</b> "
    ++ (class_name class
    ++ ascii "</th>")))))

-- CO2e per head, nothing without head
unfoldable pub per_head : ℕ → ℕ → List ℕ
per_head co2e head = pick (head == 0) [] (kilograms (round_div co2e head))

-- its head, and CO2e per head
unfoldable pub count_text : ℕ → ℕ → List ℕ
count_text head co2e =
    ascii "<td data-l=\"head\">"
    ++ (decimal head
    ++ (ascii "</td><td data-l=\"CO&#8322;e per head\">"
    ++ (per_head co2e head
    ++ ascii "</td>")))

-- both nitrogens, both gases, grazing
unfoldable pub figures_text : ℕ → ℕ → ℕ → ℕ → ℕ → List ℕ
figures_text excreted land ch4 n2o grazing =
    cell_text (ascii "nitrogen excreted") excreted
    ++ (cell_text (ascii "nitrogen for land") land
    ++ (cell_text (ascii "CH&#8324;") ch4
    ++ (cell_text (ascii "N&#8322;O") n2o
    ++ cell_text (ascii "grazing, CO&#8322;e") grazing)))

-- CO2e together
unfoldable pub together_text : ℕ → List ℕ
together_text co2e =
    ascii "<td class=\"co2e\">"
    ++ kilograms co2e

-- a row's end, and its bar below it
unfoldable pub bars_text : ℕ → Scale → ℕ → ℕ → Bool → List ℕ
bars_text columns sc from to up =
    ascii "</td></tr>\n<tr class=\"bars\"><td colspan=\""
    ++ (decimal columns
    ++ (ascii "\">"
    ++ (bar_text sc from to up
    ++ ascii "</td></tr></tbody>\n")))

-- a group's row
unfoldable pub group_text : Scale → Group → List ℕ
group_text sc g =
    heading_text g.group g.class
    ++ (count_text g.head g.co2e
    ++ (figures_text g.excreted g.land g.ch4 g.n2o g.grazing
    ++ (together_text g.co2e
    ++ bars_text 9 sc g.from g.to false)))

-- the row of the farm, where the book has a record of energy, organic soil or tillage
unfoldable pub farm_text : Survey → List ℕ
farm_text s =
    pick (of_farm s)
    (ascii "<tbody><tr><th colspan=\"8\"><b>The farm as a whole</b> energy, soil, tillage</th><td class=\"co2e\">"
    ++ (kilograms s.co2 ++ bars_text 9 (group_scale s) s.groups (plus8 s.groups s.co2) (below s.co2))) []

-- the sums below them
unfoldable pub groups_foot : Survey → List ℕ
groups_foot s =
    ascii "<tfoot><tr><th>Total</th><td></td><td></td>"
    ++ (figures_text s.excreted s.land s.ch4 s.n2o s.grazing
    ++ (together_text s.total
    ++ ascii "</td></tr></tfoot>\n</table>\n</section>\n"))

-- ---- the sources

-- what gives off or takes up, by kind, a line each
unfoldable pub source_table : List ℕ
source_table =
    ascii "\n\n\nDigestion of cattle\nCattle manure\nPig manure\nEnergy\nOrganic soil\n\nChange of tillage\nGrazing"

-- words beside it
unfoldable pub words_table : List ℕ
words_table =
    ascii "\n\n\nenteric methane\nin store\n\n\n\n\n\nalready CO<sub>2</sub>e"

abbrev pub source_name : ℕ → List ℕ
source_name kind = nth_part 10 kind source_table

-- none in the book, or that it takes up, or its own words
unfoldable pub words_text : ℕ → Bool → Bool → List ℕ
words_text kind seen up = pick seen (pick up (ascii "takes up") (nth_part 10 kind words_table)) (ascii "none in the book")

-- a source, by its kind
unfoldable pub source_head : ℕ → Bool → Bool → List ℕ
source_head kind seen up =
    ascii "<tbody><tr data-kind=\""
    ++ (decimal kind
    ++ (ascii "\"><th><b>"
    ++ (source_name kind
    ++ (ascii "</b> "
    ++ (words_text kind seen up
    ++ ascii "</th>")))))

-- the three gases
unfoldable pub gases_text : ℕ → ℕ → ℕ → List ℕ
gases_text ch4 n2o co2 =
    cell_text (ascii "CH&#8324;") ch4
    ++ (cell_text (ascii "N&#8322;O") n2o
    ++ cell_text (ascii "CO&#8322;") co2)

-- a source's row
unfoldable pub source_text : Scale → ℕ → Source → List ℕ
source_text sc kind x =
    source_head kind x.seen (below x.co2e)
    ++ (gases_text x.ch4 x.n2o x.co2
    ++ (together_text x.co2e
    ++ bars_text 5 sc x.from x.to (below x.co2e)))

-- the head of the table, and what the animals give off
unfoldable pub animals_text : Scale → Sources → List ℕ
animals_text sc s =
    ascii "<section>\n<h2>Where it comes from</h2>\n"
    ++ (ascii "<p>The same total by source, in kilograms. A minus means that CO<sub>2</sub> is taken up.</p>\n"
    ++ (ascii "<table id=\"sources\" class=\"wide\">\n"
    ++ (ascii "<thead><tr><th>Source</th><th>Methane<br>CH<sub>4</sub></th><th>Nitrous oxide<br>N<sub>2</sub>O</th>\n"
    ++ (ascii "<th>Carbon dioxide<br>CO<sub>2</sub></th><th>Together<br>CO<sub>2</sub>e</th></tr></thead>\n"
    ++ (source_text sc 3 s.enteric
    ++ (source_text sc 4 s.cattle
    ++ (source_text sc 5 s.pig
    ++ source_text sc 10 s.grazing)))))))

-- energy, organic soil and tillage
unfoldable pub land_text : Scale → Sources → List ℕ
land_text sc s =
    source_text sc 6 s.energy
    ++ (source_text sc 7 s.soil
    ++ source_text sc 9 s.tillage)

-- the sums below them
unfoldable pub sources_foot : Survey → List ℕ
sources_foot s =
    ascii "<tfoot><tr><th>Total</th>"
    ++ (gases_text s.ch4 s.n2o s.co2
    ++ (together_text s.total
    ++ ascii "</td></tr></tfoot>\n</table>\n</section>\n"))

-- the table of the sources
unfoldable pub sources_text : Survey → List ℕ
sources_text s =
    animals_text (source_scale s) s.sources ++ (land_text (source_scale s) s.sources ++ sources_foot s)

-- ---- the gases

-- a gas: its kilograms, its factor and its CO2e
unfoldable pub gas_text : ℕ → ℕ → ℕ → List ℕ
gas_text grams factor co2e =
    figure_text grams
    ++ (ascii "</td><td>&times; "
    ++ (decimal factor
    ++ (ascii "</td><td class=\"co2e\">"
    ++ kilograms co2e)))

-- the head of the table, with the two factors
unfoldable pub factors_text : Survey → List ℕ
factors_text s =
    ascii "<section>\n<h2>How the gases add up</h2>\n<p>A kilogram of methane warms as much as "
    ++ (decimal s.a
    ++ (ascii " kilograms of CO<sub>2</sub>, a kilogram of nitrous oxide as much as "
    ++ (decimal s.b
    ++ (ascii ".\nThese are the warming factors that the book of the farm names.</p>\n<table id=\"gases\">\n"
    ++ (ascii "<thead><tr><th>Gas</th><th>Kilograms</th><th>Factor</th><th>CO<sub>2</sub>e</th></tr></thead>\n"
    ++ ascii "<tbody><tr><th><b>Methane</b> CH<sub>4</sub></th><td>")))))

-- CO2, and grazing
unfoldable pub carbon_text : Survey → List ℕ
carbon_text s =
    ascii "</td></tr>\n<tr><th><b>Carbon dioxide</b> CO<sub>2</sub></th><td>"
    ++ (figure_text s.co2
    ++ (ascii "</td><td>&times; 1</td><td class=\"co2e\">"
    ++ (kilograms s.co2
    ++ (ascii "</td></tr>\n<tr><th><b>Grazing</b> CO<sub>2</sub>e from the start</th><td></td><td></td><td class=\"co2e\">"
    ++ kilograms s.grazing))))

-- the table of the gases
unfoldable pub gas_table : Survey → List ℕ
gas_table s =
    factors_text s
    ++ (gas_text s.ch4 s.a s.methane
    ++ (ascii "</td></tr>\n<tr><th><b>Nitrous oxide</b> N<sub>2</sub>O</th><td>"
    ++ (gas_text s.n2o s.b s.oxide
    ++ (carbon_text s
    ++ (ascii "</td></tr></tbody>\n<tfoot><tr><th>Total</th><td></td><td></td><td class=\"co2e\">"
    ++ (kilograms s.total
    ++ ascii "</td></tr></tfoot>\n</table>\n</section>\n"))))))

-- ---- the notes and the foot

-- what is counted and what is left out: document 01, "What the build covers", as W7 and W10 change it
unfoldable pub counted_text : List ℕ
counted_text =
    ascii "<section class=\"two\">\n<div>\n<h2>Counted</h2>\n<ul>\n<li>methane from the digestion of cattle</li>\n"
    ++ (ascii "<li>nitrous oxide from cattle manure in store</li>\n"
    ++ (ascii "<li>methane, nitrous oxide and nitrogen for land of pig manure</li>\n"
    ++ (ascii "<li>CO<sub>2</sub> of energy and of organic soil</li>\n"
    ++ (ascii "<li>CO<sub>2</sub> that a change of tillage takes up or gives off</li>\n"
    ++ (ascii "<li>what cattle graze, in CO<sub>2</sub>e</li>\n</ul>\n</div>\n<div>\n<h2>Left out</h2>\n<ul>\n"
    ++ (ascii "<li>methane from the digestion of pigs</li>\n<li>methane from cattle manure</li>\n<li>crops</li>\n<li>trees</li>\n"
    ++ ascii "<li>other credits</li>\n</ul>\n</div>\n</section>\n"))))))

-- how exact it is
unfoldable pub exact_text : List ℕ
exact_text =
    ascii "<section>\n<h2>How exact this is</h2>\n"
    ++ (ascii "<p class=\"note\">Each record of the book gives whole grams, the third decimal here. From there on everything is added, "
    ++ (ascii "and nothing is\n"
    ++ (ascii "rounded: the parts of each table make its total to the gram. Only CO<sub>2</sub>e per head is a quotient, rounded to "
    ++ (ascii "the gram. The figures\n"
    ++ ascii "are as right as what was entered: feed, head, days and shares.</p>\n</section>\n"))))

-- the foot, with the verdict
unfoldable pub foot_text : Survey → List ℕ
foot_text s =
    ascii "<footer>\n<p id=\"verdict\">"
    ++ (name_text s
    ++ (ascii ". Made from the closed book of "
    ++ (decimal s.records
    ++ ascii " records.</p>\n</footer>\n</main>\n</body>\n</html>\n")))

-- the page of a closed book after the row of its last group
unfoldable pub rest_text : Survey → List ℕ
rest_text s =
    farm_text s
    ++ (groups_foot s
    ++ (sources_text s
    ++ (gas_table s
    ++ (counted_text
    ++ (exact_text
    ++ foot_text s)))))

-- ---- the page of a book that is not closed: no figure of its lines

-- that it is not for members, and why
unfoldable pub warning_text : Bool → List ℕ
warning_text refused =
    pick refused
    (ascii "<div class=\"not\">\n<h2>Not for members</h2>\n"
    ++ (ascii "<p><b>The book of this farm is refused.</b> There are no figures on this page, because a record of the book is wrong. "
    ++ (ascii "Please do not mail it.</p>\n"
    ++ ascii "</div>\n<section>\n<h2>Why</h2>\n<p>")))
    (ascii "<div class=\"not\">\n<h2>Not for members</h2>\n"
    ++ (ascii "<p><b>The book of this farm is not closed.</b> There are no figures on this page, because the year may still change. "
    ++ (ascii "Please do not mail it.</p>\n"
    ++ ascii "</div>\n<section>\n<h2>Why</h2>\n<p>")))

-- what to do
unfoldable pub advice_text : Bool → List ℕ
advice_text refused =
    pick refused
    (ascii "</p>\n</section>\n<section>\n<h2>What to do</h2>\n<ol>\n"
    ++ (ascii "<li>Mend the record that is named here, or write the book again.</li>\n"
    ++ (ascii "<li>Close the book. It is then read once more from the first record to the last.</li>\n"
    ++ ascii "<li>Make this page again: it will have the figures.</li>\n</ol>\n</section>\n")))
    (ascii "</p>\n</section>\n<section>\n<h2>What to do</h2>\n<ol>\n<li>Open the book and enter what is missing.</li>\n"
    ++ (ascii "<li>Close the book. It is then read once more from the first record to the last.</li>\n"
    ++ ascii "<li>Make this page again: it will have the figures.</li>\n</ol>\n</section>\n"))

-- of how many records
abbrev pub made_of : Bool → List ℕ
made_of refused = pick refused (ascii ". Made from a book that is refused after ") (ascii ". Made from a book that is not closed, of ")

-- up to why's sentence
unfoldable pub before_text : Survey → Bool → List ℕ
before_text s refused =
    head_text s
    ++ warning_text refused

-- after why's sentence
unfoldable pub after_text : Survey → Bool → List ℕ
after_text s refused =
    advice_text refused
    ++ (ascii "<footer>\n<p id=\"verdict\">"
    ++ (name_text s
    ++ (made_of refused
    ++ (decimal s.records
    ++ ascii " records.</p>\n</footer>\n</main>\n</body>\n</html>\n"))))
