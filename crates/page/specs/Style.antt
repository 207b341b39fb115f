-- The style of the member's page: type, colours and sizes, for screens of any width, light and dark, and for A4.
-- Assumes nothing.
use Rattle.std.specs.Prelude.{ℕ, List, ◌++◌}
use Rattle.printing.specs.Ascii.{ascii}

-- the page, its type and its colours
unfoldable pub type_style : List ℕ
type_style =
    ascii "</title>\n<style>\n:root { --ground:#f1efe8; --paper:#fffefb; --ink:#1d2420; --soft:#566059; --rule:#cfcbbd;\n"
    ++ (ascii "  --bar:#2f6b4f; --up:#1d5c8a; --warn:#8f1d14; --warnbg:#fcefec;\n"
    ++ (ascii "  --serif:\"Iowan Old Style\",\"Palatino Linotype\",Palatino,\"Noto Serif\",Georgia,serif;\n"
    ++ (ascii "  --sans:\"Segoe UI\",system-ui,-apple-system,Roboto,\"Noto Sans\",\"Helvetica Neue\",Arial,sans-serif }\n"
    ++ (ascii "* { box-sizing:border-box }\nhtml { background:var(--ground); color:var(--ink); -webkit-text-size-adjust:100% }\n"
    ++ (ascii "body { margin:0; font:1rem/1.5 var(--sans); font-variant-numeric:lining-nums tabular-nums }\n"
    ++ (ascii "main { max-width:64rem; margin:2.5rem auto; padding:3.25rem 4rem 3rem; background:var(--paper) }\n"
    ++ (ascii "h1, h2, .sum { font-family:var(--serif); font-weight:400; margin:0 }\np { margin:0; max-width:44rem }\n"
    ++ (ascii "sub { font-size:.7em; line-height:0; vertical-align:-.25em }\n"
    ++ (ascii "small { display:inline-block; font-size:1em; font-weight:400; color:var(--soft) }\n"
    ++ (ascii "header { display:flex; justify-content:space-between; align-items:baseline; border-bottom:2px solid; padding-bottom:.75rem }\n"
    ++ (ascii "h1 { font-size:1.75rem; line-height:1.2 }\n.total { padding:1.75rem 0 .25rem }\n.total p + p { margin-top:.35rem }\n"
    ++ (ascii ".sum { font-size:4.25rem; line-height:1.1; letter-spacing:-.01em }\n"
    ++ ascii ".sum span { font-size:1.5rem; letter-spacing:0 }\n.soft, header p, h2 + p:not(.note) { color:var(--soft) }\n"))))))))))))

-- sections, tables and bars
unfoldable pub table_style : List ℕ
table_style =
    ascii "section { margin-top:2.5rem }\nh2 { font-size:1.375rem; line-height:1.25; margin-bottom:.25rem }\n"
    ++ (ascii "table { width:100%; border-collapse:collapse; margin-top:.75rem; font-size:.875rem; line-height:1.35 }\n"
    ++ (ascii "th { font-weight:400; text-align:left; vertical-align:bottom; padding:.45rem 0 .2rem }\n"
    ++ (ascii "td { text-align:right; vertical-align:bottom; padding:.45rem 0 .2rem 1rem }\n"
    ++ (ascii "thead th { color:var(--soft); padding:0 0 .3rem }\nthead th + th { text-align:right; padding-left:1rem }\n"
    ++ (ascii "thead { border-bottom:1px solid }\nb, .co2e { font-weight:600 }\ntbody th { color:var(--soft) }\n"
    ++ (ascii "tbody th b { color:var(--ink); margin-right:.35em }\n"
    ++ (ascii "table:not(.wide) tbody tr + tr > * { border-top:1px solid var(--rule) }\n"
    ++ (ascii ".bars td { padding:0; border-bottom:1px solid var(--rule) }\n"
    ++ (ascii "tfoot th, tfoot td { border-top:1px solid; border-bottom:3px double; padding-top:.5rem; padding-bottom:.5rem; font-weight:600 }\n"
    ++ (ascii "tbody:last-of-type .bars td { border-bottom:0 }\ntbody td:empty::after { content:\"\\2013\"; color:var(--soft) }\n"
    ++ (ascii "svg { display:block; width:0; min-width:100%; height:7px; fill:var(--bar) }\n"
    ++ (ascii ".up { fill:none; stroke:var(--up); stroke-width:2; vector-effect:non-scaling-stroke }\n"
    ++ (ascii ".zero { stroke:var(--ink); stroke-width:1.5; vector-effect:non-scaling-stroke }\n"
    ++ (ascii ".two { display:grid; grid-template-columns:1fr 1fr; gap:0 3rem }\n"
    ++ (ascii "ul, .note { margin:0; padding-left:1.1rem; font-size:.875rem }\n.note { padding:0 }\n"
    ++ (ascii ".not { margin-top:2rem; padding:1.5rem 1.75rem; border:4px solid var(--warn); background:var(--warnbg) }\n"
    ++ (ascii ".not h2 { font-size:2.25rem; color:var(--warn) }\n.not h2 + p { color:var(--ink) }\n"
    ++ (ascii "ol { margin:.25rem 0 0; padding-left:1.25rem }\n"
    ++ (ascii "footer { margin-top:2.5rem; border-top:1px solid var(--rule); padding-top:.6rem; "
    ++ ascii "color:var(--soft); font-size:.8125rem }\n")))))))))))))))))))

-- narrow screens
unfoldable pub narrow_style : List ℕ
narrow_style =
    ascii "@media screen and (max-width:64rem) {\n  main { margin:0 auto; padding:2rem 1.5rem }\n  table { font-size:.79rem }\n"
    ++ (ascii "  td, thead th + th { padding-left:.3rem }\n}\n@media screen and (max-width:47.9rem) {\n"
    ++ (ascii "  main { padding:1.5rem 1rem 2rem }\n  table { font-size:.875rem }\n  header { display:block }\n"
    ++ (ascii "  .sum { font-size:2.75rem }\n  .sum span { display:block; font-size:1.125rem; line-height:1.5 }\n"
    ++ (ascii "  .two { grid-template-columns:1fr; gap:2rem }\n"
    ++ (ascii "  .wide, .wide tbody, .wide tfoot, .wide thead { display:block }\n"
    ++ (ascii "  .wide tr { display:grid; grid-template-columns:1fr auto; gap:0 1rem; padding-top:.5rem }\n"
    ++ (ascii "  .wide th, .wide td { display:block; padding:.1rem 0; border:0 }\n"
    ++ (ascii "  .wide thead th:not(:first-child):not(:last-child) { display:none }\n"
    ++ (ascii "  .wide tbody th, .wide tfoot th, .wide .co2e { grid-row:1; font-size:1rem }\n  .wide td { grid-column:1/-1 }\n"
    ++ (ascii "  .wide .co2e { grid-column:2 }\n"
    ++ (ascii "  .wide td:not(.co2e)::before { content:attr(data-l); float:left; color:var(--soft); font-weight:400 }\n"
    ++ (ascii "  .wide td:empty { display:none }\n  #gases { font-size:.8125rem }\n  #gases tbody th { width:0 }\n"
    ++ (ascii "  #gases td:nth-child(3) { white-space:nowrap }\n"
    ++ (ascii "  .wide .bars { display:block; padding:.25rem 0 0; border-bottom:1px solid var(--rule) }\n"
    ++ ascii "  .wide tfoot tr { border-top:1px solid; border-bottom:3px double; padding:.5rem 0 }\n}\n"))))))))))))))

-- A4 and the dark; it ends where the farm stands on each printed page
unfoldable pub print_style : List ℕ
print_style =
    ascii "@media print {\n  @page { size:A4; margin:15mm 16mm 18mm;\n"
    ++ (ascii "    @bottom-right { content:counter(page) \" of \" counter(pages); font:8pt sans-serif; color:#566059 } }\n"
    ++ (ascii "  :root { --ground:#fff; --paper:#fff }\n  body { font-size:9.5pt; line-height:1.4 }\n"
    ++ (ascii "  main { max-width:none; margin:0; padding:0 }\n"
    ++ (ascii "  h1 { font-size:19pt } h2 { font-size:13.5pt } .sum { font-size:40pt } .sum span { font-size:15pt }\n"
    ++ (ascii "  table { font-size:8pt } ul, .note { font-size:9.5pt }\n  td, thead th + th { padding-left:2mm }\n"
    ++ (ascii "  section { margin-top:7.5mm; break-inside:avoid }\n  svg { height:1.8mm }\n  footer { display:none }\n}\n"
    ++ (ascii "@media screen and (prefers-color-scheme:dark) {\n"
    ++ (ascii "  :root { --ground:#111512; --paper:#1a1f1c; --ink:#e9ece7; --soft:#a7b1a9; --rule:#3b443e;\n"
    ++ (ascii "    --bar:#7cc29f; --up:#8dbde8; --warn:#ffb4aa; --warnbg:#2f1a18 }\n}\n"
    ++ ascii "@media print { @page { @bottom-left { content:\"")))))))))

unfoldable pub style_text : List ℕ
style_text = type_style ++ (table_style ++ (narrow_style ++ print_style))
