use Rattle.rt_meaning_sound.proofs.Systems.{texts_make_systems}
use Rattle.rt_meaning_sound.proofs.laws.stores_of_texts_stay_typed.Goals as goal

pub returns-clause-fit : goal.returns-clause-fit
returns-clause-fit c = texts_make_systems c.items_are_in_range.ensures c.names_are_words.ensures c.numbers_fit.ensures.starts c.numbers_fit.ensures.strings c.modules_are_named.ensures c.modules_fit.ensures c.records_are_tables.ensures c.data_items_are_fields.ensures c.full_data_open.ensures

pub returns-clause-typed : goal.returns-clause-typed
returns-clause-typed c = λ ps ts hs texts matched tasks may. c.stores_stay_typed.ensures ps ts hs (returns-clause-fit c ps texts matched) tasks may

pub returns-clause-runs : goal.returns-clause-runs
returns-clause-runs c = λ ps ts placements input n r texts matched tasks bytes e. c.source_runs_fit.ensures.systems ps ts placements input n r (returns-clause-fit c ps texts matched) tasks bytes e
