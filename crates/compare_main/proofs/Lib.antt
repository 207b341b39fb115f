pub mod SeriesOn
