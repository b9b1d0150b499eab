mod ViewLaws
mod FigureLaws
mod NumberLaws
